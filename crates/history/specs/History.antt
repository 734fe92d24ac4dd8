-- What any sequence of calls leaves behind (demand 3), read through the reader's definitions.
use Rattle.std.specs.Prelude.{ℕ, zero, suc, ◌+◌, ◌*◌, ◌%◌, ◌^◌, ◌≤◌, ◌<◌, ◌≡◌, ◌⊎◌, Bool, true, false, List, [], ◌∷◌, ◌++◌, map, reverse, length, eqb, Ok}
use Rattle.std.proofs.Math.ListN as ListN
use Rattle.codec.specs.Choice.{pick}
use Rattle.codec.specs.Number.{Bytes}
use Rattle.codec.specs.Time.{ns}
use Rattle.codec.specs.declared.ident.Ident.{Ident}
use Rattle.reader.specs.Frame.{judge_of, items_of}
use Rattle.reader.specs.Listing.{Yield, stepping}
use Rattle.framer.specs.declared.queue.Queue.{Queue}
use Rattle.framer.specs.Queue.{frame_at}
use Rattle.mirror.specs.Engine.{discards_of, failures_of}
use Rattle.mirror.specs.Call.{Call, Said, Step, step_of, run_of}
use Rattle.mirror.specs.declared.engine.Engine.{Engine}
use Rattle.history.specs.Meaning.{Meaning, starts, stops, updates, reports, ticks, takes, fails, switches, drops, nothing, meaning}
use Rattle.history.specs.Account.{Account, Event}
use Rattle.history.specs.Ledger.{Limits, Line, Frame, Closed, Ledger, empty_ledger, Op, step_l, run_l, item_in, entry_in, size_in, total, discard_count, taken_in, waiting_in, failures_in, failure_count, unmarked, offset_in, line_for, is_out, lines_in, filling_in}
use Rattle.history.specs.Deed.{Deed, deeds_of, done, events_on, ops_on, ledger_of}
use Rattle.history.specs.Clock.{tells_by, says_by}
use Rattle.history.specs.Loss.{Marks, Noted, failed_on}

-- an id and a payload of the machine's types: a CAN key is below 2^32, a payload's numbers are bytes
abbrev pub KeyFits : Ident → Type 0
KeyFits (Ident.Can key) = key < 2 ^ 32
KeyFits (Ident.Lin pid) = Unit
KeyFits (Ident.FlexRay channels slot cycle) = Unit
KeyFits (Ident.FlexRayError channels) = Unit
KeyFits (Ident.Bare kind) = Unit

abbrev pub Allowed : Meaning → Type 0
Allowed (reports source b t ident carries payload) = KeyFits ident × Bytes payload
Allowed (switches size room deadline) = ⊥
Allowed drops = ⊥
Allowed (starts source) = Unit
Allowed (stops source) = Unit
Allowed (updates source byte) = Unit
Allowed (ticks t) = Unit
Allowed takes = Unit
Allowed fails = Unit
Allowed nothing = Unit

-- neither offline nor switch, and of the machine's types
abbrev pub Plain : Call → Type 0
Plain x = Allowed (meaning x)

abbrev pub All : {A : Type 0} → (A → Type 0) → List A → Type 0
All P [] = Unit
All P (x ∷ xs) = P x × All P xs

-- two lists of one length, member by member
abbrev pub Both : {A B : Type 0} → (A → B → Type 0) → List A → List B → Type 0
Both R [] [] = Unit
Both R [] (y ∷ ys) = ⊥
Both R (x ∷ xs) [] = ⊥
Both R (x ∷ xs) (y ∷ ys) = R x y × Both R xs ys

-- the bytes: what takes that were answered 0 put at the front of their outputs
abbrev pub frame_out : Meaning → Said → List (List ℕ)
frame_out takes s = ListN.take s.number s.output ∷ []
frame_out (starts source) s = []
frame_out (stops source) s = []
frame_out (updates source byte) s = []
frame_out (reports source b t ident carries payload) s = []
frame_out (ticks t) s = []
frame_out fails s = []
frame_out (switches size room deadline) s = []
frame_out drops s = []
frame_out nothing s = []

abbrev pub frames_taken : List Deed → List (List ℕ)
frames_taken [] = []
frames_taken (d ∷ ds) = pick (done d) (frame_out (meaning d.call) d.said) [] ++ frames_taken ds

-- what a receiver can have: those that the ledger has not marked as failed
abbrev pub frames_sent : Ledger → List Deed → List (List ℕ)
frames_sent l ds = unmarked (reverse l.sends) (frames_taken ds)

-- n slots of the ring of eight from number k on
abbrev pub slots_from : Queue → ℕ → ℕ → List (List ℕ)
slots_from q k zero = []
slots_from q k (suc n) = frame_at q (k % 8) ∷ slots_from q (suc k) n

-- the frames that wait in the engine, the oldest first
unfoldable pub frames_waiting : Engine → List (List ℕ)
frames_waiting e = slots_from e.framer.queue e.framer.meter.first e.framer.meter.waiting

-- the frame being filled, if there is one
unfoldable pub frames_filling : Engine → List (List ℕ)
frames_filling e = pick (eqb e.framer.meter.filled 0) [] (ListN.take e.framer.meter.filled e.framer.bytes ∷ [])

-- what the reader yields is the line's item with its payload, and the recovered time is never after the time reported and less
-- than 10,000 ns before it (a and d)
pub record Shows (y : Yield) (x : Line) : Type 0 where
  pub item : y.item ≡ item_in x
  pub payload : y.payload ≡ x.event.payload
  pub never_after : ns y.time ≤ ns x.event.time
  pub near : ns x.event.time < ns y.time + 10000

-- the reader accepts the bytes; their header and items are the frame's, and stepping yields its lines one by one (a and d)
pub record Reads (s : List ℕ) (f : Frame) : Type 0 where
  pub header : judge_of s ≡ Ok (record { sequence = f.sequence; time = f.time; length = total f.lines })
  pub items : items_of s 14 ≡ map entry_in f.lines
  pub lines : Both Shows (stepping (length s) s 14) f.lines

-- rule 2 or rule 6 says that the frame being filled closes; a take and a failed send never do (c)
abbrev pub Says : Limits → Ledger → Op → Type 0
Says c l (Op.event ev) =
    (l.filling.lines ≡ [] → ⊥)
    × ((ns ev.time < ns l.filling.time) ⊎ ((65535 < offset_in l.filling ev.time) ⊎ (c.size < 14 + total l.filling.lines + size_in (line_for l ev))))
Says c l (Op.deadline t) =
    (l.filling.lines ≡ [] → ⊥) × ((1 ≤ c.deadline) × (ns l.filling.time + c.deadline * 1000000 ≤ ns t))
Says c l Op.take = ⊥
Says c l Op.fail = ⊥

-- at one moment: no frame closes and no rule says so, or one does, as a rule says, and it is discarded exactly where Q wait (c)
pub data Closes (c : Limits) (l : Ledger) (op : Op) (m : Ledger) : Type 0 where
  stays : m.closed ≡ l.closed → (Says c l op → ⊥) → Closes c l op m
  closes : (kept : Bool) → m.closed ≡ l.closed ++ (record { frame = l.filling; kept = kept } ∷ []) → Says c l op
      → (kept ≡ true → length (waiting_in l) < c.room) → (kept ≡ false → length (waiting_in l) ≡ c.room) → Closes c l op m

-- demand 3: with the limits c and the accounts `book` of a setup, the deeds ds after it have left the engine u, and the ledger l
-- was kept of them
pub record History (c : Limits) (book : List Account) (ds : List Deed) (l : Ledger) (u : Engine) : Type 0 where
  -- a: the frames taken, then those waiting, then the one being filled read as those of the ledger
  pub taken : Both Reads (frames_taken ds) (taken_in l)
  pub waiting : Both Reads (frames_waiting u) (waiting_in l)
  pub filling : Both Reads (frames_filling u) (filling_in l)
  -- b: the ledger's lines are the accepted reports and the state items called for, in order
  pub items : map (λ (x : Line). x.event) (lines_in l) ≡ events_on book ds
  -- c: at each moment a frame closes exactly when rule 2 or 6 says, and is discarded exactly when Q wait; none closes empty
  pub closes : (before after : List Op) (op : Op) → ops_on book ds ≡ before ++ (op ∷ after)
      → Closes c (run_l c empty_ledger before) op (step_l c (run_l c empty_ledger before) op)
  pub discards : discards_of u ≡ Ok (discard_count l)
  pub filled : All (λ (k : Closed). k.frame.lines ≡ [] → ⊥) l.closed
  -- d: in `Reads`, for each line
  -- e: the lost bit stands exactly on the first item made after a discard or a failed send
  pub marks : Marks false l.notes l.lost
  pub noted : Noted l
  pub pending : u.framer.meter.lost ≡ l.lost
  -- f: no call answers 19
  pub answers : All (λ (d : Deed). d.said.answer ≡ 19 → ⊥) ds
  -- g: at each moment a report or a tick tells how far its time lies before the frame being filled as it found it
  pub tells : (before after : List Deed) (d : Deed) → ds ≡ before ++ (d ∷ after) → says_by d ≡ tells_by (ledger_of c book before) d
  -- h: at each moment `failed` is answered 0 exactly where a frame is out, and else 17; the failure count is the number of those
  -- answered 0, which is the number of frames marked as failed; there is a mark for each frame taken
  pub fails : (before after : List Deed) (d : Deed) → ds ≡ before ++ (d ∷ after) → d.call ≡ Call.failed
      → d.said.answer ≡ pick (is_out (ledger_of c book before).sends) 0 17
  pub failures : failures_of u ≡ Ok (failure_count l)
  pub called : failures_in l.sends ≡ failed_on ds
  pub marked : length l.sends ≡ length (frames_taken ds)

-- setup with the limits c and a list of kinds and ids
abbrev pub set_up : Engine → Limits → List ℕ → Step
set_up e c pairs = step_of e (Call.setup c.size c.room c.deadline pairs)

-- what calls leave of an engine just set up
abbrev pub Leaves : Limits → List Account → Engine → List Call → Type 0
Leaves c book e calls = History c book (deeds_of e calls) (ledger_of c book (deeds_of e calls)) (run_of e calls)

-- what stepping through one frame after the other yields
abbrev pub yields_in : List (List ℕ) → List Yield
yields_in [] = []
yields_in (s ∷ ss) = stepping (length s) s 14 ++ yields_in ss

-- the event itself, with nothing lost before it
abbrev pub ShowsEvent : Yield → Event → Type 0
ShowsEvent y ev = Shows y (record { event = ev; offset = y.item.offset.0; lost = false })
