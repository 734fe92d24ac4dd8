-- The ledger of frames: it knows no bytes and never forgets (rules 1 to 4 and 6 to 8).
use Rattle.std.specs.Prelude.{ℕ, suc, ◌+◌, ◌-◌, ◌*◌, ◌/◌, ◌%◌, min, Bool, true, false, not, ◌&&◌, ◌||◌, List, [], ◌∷◌, ◌++◌, reverse, length, drop, ltb, leb}
use Rattle.std.proofs.Math.ListN as ListN
use Rattle.codec.specs.Choice.{pick}
use Rattle.codec.specs.Time.{ns}
use Rattle.codec.specs.Item.{item_length}
use Rattle.codec.specs.Layout.{Entry}
use Rattle.codec.specs.declared.time.Time.{Time}
use Rattle.std.specs.Prelude.{Option, Some, None}
use Rattle.codec.specs.declared.item.Item.{Item}
use Rattle.history.specs.Account.{Event}

-- frame size F, queue room Q, deadline D in milliseconds
pub record Limits : Type 0 where
  pub size : ℕ
  pub room : ℕ
  pub deadline : ℕ

-- an event as it stands in a frame: its offset, and whether it shows a loss
pub record Line : Type 0 where
  pub event : Event
  pub offset : ℕ
  pub lost : Bool

-- a frame; one without lines has no header yet, so its sequence number and time say nothing
pub record Frame : Type 0 where
  pub sequence : ℕ
  pub time : Time
  pub lines : List Line

-- a closed frame, queued or discarded
pub record Closed : Type 0 where
  pub frame : Frame
  pub kept : Bool

-- what is noted in order: an item was made, a frame was queued, a frame was discarded, a frame that was taken has failed
pub data Note : Type 0 where
  made : Line → Note
  queued : Note
  discarded : Note
  unsent : Note

-- every frame closed so far, the one being filled, the next sequence number, whether a loss is pending; for each kept frame that
-- was taken, the latest first, whether it was called failed; and the notes
pub record Ledger : Type 0 where
  pub closed : List Closed
  pub filling : Frame
  pub next : ℕ
  pub lost : Bool
  pub sends : List Bool
  pub notes : List Note

-- after setup
unfoldable pub empty_ledger : Ledger
empty_ledger = record {
  closed = [];
  filling = record { sequence = 0; time = record { sec = 0; nano = 0 }; lines = [] };
  next = 0;
  lost = false;
  sends = [];
  notes = [];
}

-- the state is shown where lost is pending, which sets bit 7, or where it is due (rule 4)
unfoldable pub state_in : Line → Option ℕ
state_in x = pick x.lost (Some (x.event.state + 128)) (pick x.event.due (Some x.event.state) None)

-- the item of a line, its payload beside it, and how many bytes it takes
unfoldable pub item_in : Line → Item
item_in x = record {
  offset = record { 0 = x.offset };
  network = x.event.network;
  state = state_in x;
  ident = x.event.ident;
  carries = x.event.carries;
}

abbrev pub entry_in : Line → Entry
entry_in x = record { item = item_in x; payload = x.event.payload }

unfoldable pub size_in : Line → ℕ
size_in x = item_length (item_in x) (length x.event.payload)

-- DataLength: the total of the item lengths
abbrev pub total : List Line → ℕ
total [] = 0
total (x ∷ xs) = size_in x + total xs

abbrev pub is_empty : {A : Type 0} → List A → Bool
is_empty [] = true
is_empty (x ∷ xs) = false

-- the kept frames, and the discarded ones
abbrev pub kept_in : List Closed → List Frame
kept_in [] = []
kept_in (k ∷ ks) = pick k.kept (k.frame ∷ []) [] ++ kept_in ks

abbrev pub discarded_in : List Closed → List Frame
discarded_in [] = []
discarded_in (k ∷ ks) = pick k.kept [] (k.frame ∷ []) ++ discarded_in ks

-- the discard count, stopping at 4,294,967,295 (rule 3)
unfoldable pub discard_count : Ledger → ℕ
discard_count l = min (length (discarded_in l.closed)) 4294967295

-- kept and taken, the oldest first; kept and not yet taken
unfoldable pub taken_in : Ledger → List Frame
taken_in l = ListN.take (length l.sends) (kept_in l.closed)

unfoldable pub waiting_in : Ledger → List Frame
waiting_in l = drop (length l.sends) (kept_in l.closed)

-- the failure count, stopping at 4,294,967,295 (rule 8)
abbrev pub failures_in : List Bool → ℕ
failures_in [] = 0
failures_in (failed ∷ before) = pick failed (suc (failures_in before)) (failures_in before)

unfoldable pub failure_count : Ledger → ℕ
failure_count l = min (failures_in l.sends) 4294967295

-- those that are not marked, mark by mark
abbrev pub unmarked : {A : Type 0} → List Bool → List A → List A
unmarked [] xs = []
unmarked (m ∷ ms) [] = []
unmarked (m ∷ ms) (x ∷ xs) = pick m [] (x ∷ []) ++ unmarked ms xs

-- taken and not failed: what a receiver can have
unfoldable pub sent_in : Ledger → List Frame
sent_in l = unmarked (reverse l.sends) (taken_in l)

-- rule 1: t minus header time in nanoseconds, divided by 10,000, remainder dropped; 0 where t is the header time
unfoldable pub offset_in : Frame → Time → ℕ
offset_in f t = (ns t - ns f.time) / 10000

-- the line that an event makes now (rules 1 and 4)
unfoldable pub line_for : Ledger → Event → Line
line_for l ev = record { event = ev; offset = offset_in l.filling ev.time; lost = l.lost }

-- rule 2: close, unless it is empty, if t precedes its header time, the offset would pass 65,535, or the item doesn't fit in F
unfoldable pub closes_before : Limits → Ledger → Event → Bool
closes_before c l ev =
    not (is_empty l.filling.lines)
    && (ltb (ns ev.time) (ns l.filling.time) || ltb 65535 (offset_in l.filling ev.time)
    || ltb c.size (14 + total l.filling.lines + size_in (line_for l ev)))

-- rule 6: D isn't 0, the frame isn't empty, and t minus header time is D ms or more
unfoldable pub overdue : Limits → Ledger → Time → Bool
overdue c l t =
    not (is_empty l.filling.lines) && (leb 1 c.deadline && leb (ns l.filling.time + c.deadline * 1000000) (ns t))

-- rule 3: fewer than Q wait
unfoldable pub has_room : Limits → Ledger → Bool
has_room c l = ltb (length (waiting_in l)) c.room

-- rule 3: with fewer than Q waiting the frame is queued; with Q waiting it is discarded and lost becomes pending
unfoldable pub close : Limits → Ledger → Ledger
close c l = record {
  closed = l.closed ++ (record { frame = l.filling; kept = has_room c l } ∷ []);
  filling = record { sequence = l.filling.sequence; time = l.filling.time; lines = [] };
  next = l.next;
  lost = l.lost || not (has_room c l);
  sends = l.sends;
  notes = l.notes ++ (pick (has_room c l) queued discarded ∷ []);
}

-- rule 1: in an empty frame the header comes first, with time t and the next sequence number, which then rises by 1, 255 to 0
unfoldable pub begin : Time → Ledger → Ledger
begin t l = pick (is_empty l.filling.lines)
    (record {
      closed = l.closed;
      filling = record { sequence = l.next; time = t; lines = [] };
      next = (l.next + 1) % 256;
      lost = l.lost;
      sends = l.sends;
      notes = l.notes;
    })
    l

-- rules 1 and 4: one item; lost has been shown
unfoldable pub enter : Event → Ledger → Ledger
enter ev l = record {
  closed = l.closed;
  filling = record {
    sequence = l.filling.sequence;
    time = l.filling.time;
    lines = l.filling.lines ++ (line_for l ev ∷ []);
  };
  next = l.next;
  lost = false;
  sends = l.sends;
  notes = l.notes ++ (made (line_for l ev) ∷ []);
}

-- closing comes first, so the choice of the state, and the size, is made again after it (rules 2 and 4)
unfoldable pub mirrored : Limits → Event → Ledger → Ledger
mirrored c ev l = enter ev (begin ev.time (pick (closes_before c l ev) (close c l) l))

unfoldable pub passed : Limits → Time → Ledger → Ledger
passed c t l = pick (overdue c l t) (close c l) l

-- rule 7: the oldest waiting frame is taken, if one waits
unfoldable pub taken : Ledger → Ledger
taken l = record {
  closed = l.closed;
  filling = l.filling;
  next = l.next;
  lost = l.lost;
  sends = pick (is_empty (waiting_in l)) l.sends (false ∷ l.sends);
  notes = l.notes;
}

-- a frame is out: one was taken, and the latest was not called failed
abbrev pub is_out : List Bool → Bool
is_out [] = false
is_out (failed ∷ before) = not failed

-- rule 8: the frame that is out has failed, and lost becomes pending; where none is out, nothing
unfoldable pub failed : Ledger → Ledger
failed l = pick (is_out l.sends)
    (record {
      closed = l.closed;
      filling = l.filling;
      next = l.next;
      lost = true;
      sends = true ∷ drop 1 l.sends;
      notes = l.notes ++ (unsent ∷ []);
    })
    l

-- what can befall a ledger: an event to be mirrored, a tick's look at the deadline, a take, a send that failed
pub data Op : Type 0 where
  event : Event → Op
  deadline : Time → Op
  take : Op
  fail : Op

abbrev pub step_l : Limits → Ledger → Op → Ledger
step_l c l (event ev) = mirrored c ev l
step_l c l (deadline t) = passed c t l
step_l c l take = taken l
step_l c l fail = failed l

abbrev pub run_l : Limits → Ledger → List Op → Ledger
run_l c l [] = l
run_l c l (op ∷ ops) = run_l c (step_l c l op) ops

-- every line ever made, in order
abbrev pub lines_closed : List Closed → List Line
lines_closed [] = []
lines_closed (k ∷ ks) = k.frame.lines ++ lines_closed ks

unfoldable pub lines_in : Ledger → List Line
lines_in l = lines_closed l.closed ++ l.filling.lines

-- the frame being filled, if it has a line
unfoldable pub filling_in : Ledger → List Frame
filling_in l = pick (is_empty l.filling.lines) [] (l.filling ∷ [])

-- what the notes say of frames, where xs was made since the last closing: the lines of each that closed and whether it was kept, and
-- the lines made since then
abbrev pub closed_by : List Line → List Note → List (List Line × Bool)
closed_by xs [] = []
closed_by xs (made x ∷ ns) = closed_by (xs ++ (x ∷ [])) ns
closed_by xs (queued ∷ ns) = (xs, true) ∷ closed_by [] ns
closed_by xs (discarded ∷ ns) = (xs, false) ∷ closed_by [] ns
closed_by xs (unsent ∷ ns) = closed_by xs ns

abbrev pub filling_by : List Line → List Note → List Line
filling_by xs [] = xs
filling_by xs (made x ∷ ns) = filling_by (xs ++ (x ∷ [])) ns
filling_by xs (queued ∷ ns) = filling_by [] ns
filling_by xs (discarded ∷ ns) = filling_by [] ns
filling_by xs (unsent ∷ ns) = filling_by xs ns

-- and over all frames: every line made, and how many frames were discarded and called failed
abbrev pub made_in : List Note → List Line
made_in [] = []
made_in (made x ∷ ns) = x ∷ made_in ns
made_in (queued ∷ ns) = made_in ns
made_in (discarded ∷ ns) = made_in ns
made_in (unsent ∷ ns) = made_in ns

abbrev pub is_discard : Note → ℕ
is_discard discarded = 1
is_discard (made x) = 0
is_discard queued = 0
is_discard unsent = 0

abbrev pub is_failure : Note → ℕ
is_failure unsent = 1
is_failure (made x) = 0
is_failure queued = 0
is_failure discarded = 0

abbrev pub tally : (Note → ℕ) → List Note → ℕ
tally f [] = 0
tally f (n ∷ ns) = f n + tally f ns
