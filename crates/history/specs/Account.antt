-- What each source has to say: the first half of the ledger (rules 4 to 6).
use Rattle.std.specs.Prelude.{ℕ, ◌+◌, ◌*◌, ◌/◌, ◌%◌, Bool, true, false, not, ◌&&◌, ◌||◌, List, [], ◌∷◌, ◌++◌, map, get_or, set, ltb, eqb, Option, Some, None}
use Rattle.codec.specs.Choice.{pick, opened}
use Rattle.codec.specs.declared.time.Time.{Time}
use Rattle.codec.specs.declared.ident.Kind.{Kind}
use Rattle.codec.specs.declared.ident.Ident.{Ident}
use Rattle.history.specs.Meaning.{Bound, none, errors, conflict, aggregated, Meaning, starts, stops, updates, reports, ticks, takes, fails, switches, drops, nothing}

-- something to be mirrored: an accepted report, or a state item that a tick calls for. `state` is the source's state byte
-- without bit 7; `due` says that it is shown even where no loss is pending
pub record Event : Type 0 where
  pub time : Time
  pub network : ℕ
  pub ident : Ident
  pub carries : Bool
  pub payload : List ℕ
  pub state : ℕ
  pub due : Bool

-- what the rules say of a source, filters apart. `shown` is the byte last shown, if one was; `heard`, that a report was accepted since the last
-- tick
pub record Account : Type 0 where
  pub kind : Kind
  pub network : ℕ
  pub started : Bool
  pub state : ℕ
  pub known : Bool
  pub shown : Option ℕ
  pub heard : Bool

-- after setup: not started, the byte 0, unknown and unshown (rule 4)
unfoldable pub fresh_account : Kind → ℕ → Account
fresh_account kind network = record {
  kind = kind;
  network = network;
  started = false;
  state = 0;
  known = false;
  shown = None;
  heard = false;
}

-- CAN 1, LIN 2, FlexRay 3
unfoldable pub kind_named : ℕ → Kind
kind_named n = pick (eqb n 1) Kind.Can (pick (eqb n 2) Kind.Lin Kind.FlexRay)

-- the sources in the order of setup's list of kinds and ids
abbrev pub accounts_for : List ℕ → List Account
accounts_for [] = []
accounts_for (kind ∷ []) = []
accounts_for (kind ∷ (id ∷ rest)) = fresh_account (kind_named kind) id ∷ accounts_for rest

unfoldable pub account_at : List Account → ℕ → Account
account_at book source = get_or book source (fresh_account Kind.Can 0)

-- starting, also twice, makes the byte 0, unknown and unshown; stopping keeps what is collected (rule 4)
unfoldable pub started_account : Account → Account
started_account a = record {
  kind = a.kind;
  network = a.network;
  started = true;
  state = 0;
  known = false;
  shown = None;
  heard = a.heard;
}

unfoldable pub stopped_account : Account → Account
stopped_account a = record {
  kind = a.kind;
  network = a.network;
  started = false;
  state = a.state;
  known = a.known;
  shown = a.shown;
  heard = a.heard;
}

-- an update makes the byte known (rule 4)
unfoldable pub updated_account : ℕ → Account → Account
updated_account byte a = record {
  kind = a.kind;
  network = a.network;
  started = a.started;
  state = byte;
  known = true;
  shown = a.shown;
  heard = a.heard;
}

-- a state byte with the frame-bound bits written, and with them clear (rule 4): LIN's are the four low bits, which byte / 16 * 16
-- has not; a conflict's is bit 0, which byte / 2 * 2 has not; those of an error without a frame are bits 3 to 1, which
-- byte / 16 * 16 + byte % 2 has not
abbrev pub written : Bound → ℕ → ℕ
written none byte = byte
written (errors bits) byte = byte / 16 * 16 + bits
written conflict byte = byte / 2 * 2 + 1
written (aggregated bits) byte = byte / 16 * 16 + byte % 2 + bits

abbrev pub cleared : Bound → ℕ → ℕ
cleared none byte = byte
cleared (errors bits) byte = byte / 16 * 16
cleared conflict byte = byte / 2 * 2
cleared (aggregated bits) byte = byte / 16 * 16 + byte % 2

-- an accepted LIN report, FlexRay conflict or error makes the byte known
abbrev pub informs : Bound → Bool
informs none = false
informs (errors bits) = true
informs conflict = true
informs (aggregated bits) = true

-- a LIN error that is repeated is never left out; a conflict and an error without a frame are always shown (rules 4 and 5)
abbrev pub insists : Bound → Bool
insists none = false
insists (errors bits) = ltb 0 bits
insists conflict = true
insists (aggregated bits) = true

-- known, and never shown or different from the last shown (rules 4 and 6)
unfoldable pub differs : Bool → ℕ → Account → Bool
differs known state a = known && not (opened a.shown (λ byte. eqb byte state) false)

-- the report shows the state even where no loss is pending (rule 4)
unfoldable pub shows_by : Bound → Account → Bool
shows_by b a = differs (a.known || informs b) (written b a.state) a || insists b

-- an accepted report (rules 4 and 5)
unfoldable pub report_event : Bound → Account → Time → Ident → Bool → List ℕ → Event
report_event b a t ident carries payload = record {
  time = t;
  network = a.network;
  ident = ident;
  carries = carries;
  payload = payload;
  state = written b a.state;
  due = shows_by b a;
}

-- and what it leaves: frame-bound bits clear after their item; a byte that is shown for a loss alone was the last shown already
-- or is unknown, so only what `due` shows counts (rule 4)
unfoldable pub reported_account : Bound → Account → Account
reported_account b a = record {
  kind = a.kind;
  network = a.network;
  started = a.started;
  state = cleared b (written b a.state);
  known = a.known || informs b;
  shown = pick (shows_by b a) (Some (written b a.state)) a.shown;
  heard = true;
}

-- a tick: for each started source whose state is known, is unshown or differs from the last shown, and from which no report was
-- accepted since the last tick (rule 6)
unfoldable pub calls_for : Account → Bool
calls_for a = a.started && differs a.known a.state a && not a.heard

-- a state-only item
unfoldable pub state_event : Time → Account → Event
state_event t a = record {
  time = t;
  network = a.network;
  ident = Ident.Bare a.kind;
  carries = false;
  payload = [];
  state = a.state;
  due = true;
}

unfoldable pub ticked_account : Account → Account
ticked_account a = record {
  kind = a.kind;
  network = a.network;
  started = a.started;
  state = a.state;
  known = a.known;
  shown = pick (calls_for a) (Some a.state) a.shown;
  heard = false;
}

-- in order of source number
abbrev pub state_events : Time → List Account → List Event
state_events t [] = []
state_events t (a ∷ book) = pick (calls_for a) (state_event t a ∷ []) [] ++ state_events t book

-- what an accepted call gives to be mirrored
abbrev pub events_of : List Account → Meaning → List Event
events_of book (reports source b t ident carries payload) = report_event b (account_at book source) t ident carries payload ∷ []
events_of book (ticks t) = state_events t book
events_of book (starts source) = []
events_of book (stops source) = []
events_of book (updates source byte) = []
events_of book takes = []
events_of book fails = []
events_of book (switches size room deadline) = []
events_of book drops = []
events_of book nothing = []

-- one account changed
unfoldable pub changed : List Account → ℕ → (Account → Account) → List Account
changed book source f = set book source (f (account_at book source))

-- the accounts after an accepted call
abbrev pub accounts_of : List Account → Meaning → List Account
accounts_of book (starts source) = changed book source started_account
accounts_of book (stops source) = changed book source stopped_account
accounts_of book (updates source byte) = changed book source (updated_account byte)
accounts_of book (reports source b t ident carries payload) = changed book source (reported_account b)
accounts_of book (ticks t) = map ticked_account book
accounts_of book takes = book
accounts_of book fails = book
accounts_of book (switches size room deadline) = book
accounts_of book drops = book
accounts_of book nothing = book
