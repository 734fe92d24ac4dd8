-- The framer's numbers, and what is decided from them alone (rules 1 to 4 and 6 to 8).
use Rattle.std.specs.Prelude.{◌≡◌, ℕ, ◌+◌, ◌-◌, ◌%◌, ◌≤◌, min, Bool, true, false, not, ◌&&◌, ◌||◌, ◌==◌, bit_or, nat_le, nat_lt}
use Rattle.codec.specs.Choice.{pick}
use Rattle.codec.specs.Time.{ns, time_ok, elapsed}
use Rattle.codec.specs.Item.{item_length}
use Rattle.codec.specs.declared.time.Time.{Time}
use Rattle.codec.specs.declared.time.Ticks.{Ticks}
use Rattle.codec.specs.declared.time.Millis.{Millis}
use Rattle.codec.specs.declared.time.Nanos.{Nanos}
use Rattle.codec.specs.declared.time.Elapsed.{Elapsed}
use Rattle.std.specs.Prelude.{Option, Some, None}
use Rattle.codec.specs.declared.item.Item.{Item}
use Rattle.framer.specs.declared.offer.Offer.{Offer}
use Rattle.framer.specs.declared.meter.Meter.{Meter}

-- frame size F 32 to 1,024, queue room Q 1 to 8, deadline D 0 for none, else 1 to 655 ms
-- (Specification of Bus Mirroring, chapter 10, MirrorDestTransmissionDeadline)
unfoldable pub limits_ok : ℕ → ℕ → ℕ → Bool
limits_ok size room deadline = nat_le 32 size && nat_le size 1024 && nat_le 1 room && nat_le room 8 && nat_le deadline 655

-- the framer's part of the one written soundness rule (answer 19): the limits, a frame that is empty or has its header and is
-- no longer than F, a header time in range, a slot that there is, and no more than Q waiting
unfoldable pub sound_meter : Meter → Bool
sound_meter m =
    nat_le 32 m.size && nat_le m.size 1024 && nat_le 1 m.room && nat_le m.room 8 && nat_le m.deadline.0 655
    && nat_le m.filled m.size && (m.filled == 0 || nat_le 14 m.filled) && time_ok m.time
    && nat_le m.first 7 && nat_le m.waiting m.room

-- the same as facts about numbers
pub record Sound (m : Meter) : Type 0 where
  pub size_least : 32 ≤ m.size
  pub size_most : m.size ≤ 1024
  pub room_least : 1 ≤ m.room
  pub room_most : m.room ≤ 8
  pub deadline : m.deadline.0 ≤ 655
  pub filled : m.filled ≤ m.size
  pub header : (m.filled == 0 || nat_le 14 m.filled) ≡ true
  pub time : time_ok m.time ≡ true
  pub first : m.first ≤ 7
  pub waiting : m.waiting ≤ m.room

-- after setup: nothing waits, is being filled or is out, no loss is pending, both counts and the next sequence number are 0
unfoldable pub empty_meter : ℕ → ℕ → Millis → Meter
empty_meter size room deadline = record {
  size = size;
  room = room;
  deadline = deadline;
  filled = 0;
  time = record { sec = 0; nano = 0 };
  sequence = 0;
  lost = false;
  discards = 0;
  out = false;
  failures = 0;
  first = 0;
  waiting = 0;
}

-- the time since the header fits an offset
abbrev pub is_within : Elapsed → Bool
is_within (Elapsed.Ticks t) = true
is_within Elapsed.TooFar = false
is_within (Elapsed.Backwards n) = false

abbrev pub ticks_in : Elapsed → Ticks
ticks_in (Elapsed.Ticks t) = t
ticks_in Elapsed.TooFar = record { 0 = 0 }
ticks_in (Elapsed.Backwards n) = record { 0 = 0 }

-- how far the clock is behind the header
abbrev pub back_in : Elapsed → Nanos
back_in (Elapsed.Ticks t) = record { 0 = 0 }
back_in Elapsed.TooFar = record { 0 = 0 }
back_in (Elapsed.Backwards n) = n

-- the state is shown where it is due or lost is pending, which sets bit 7 (rule 4)
unfoldable pub state_shown : Bool → Offer → Option ℕ
state_shown lost o = pick lost (Some (bit_or o.state 128)) (pick o.due (Some o.state) None)

unfoldable pub item_of : Bool → Ticks → Offer → Item
item_of lost offset o =
    record { offset = offset; network = o.network; state = state_shown lost o; ident = o.ident; carries = o.carries }

-- 0 in an empty frame, else the ticks since the header time (rule 1)
unfoldable pub offset_for : Meter → Time → Ticks
offset_for m t = pick (m.filled == 0) (record { 0 = 0 }) (ticks_in (elapsed (ns m.time) (ns t)))

-- how many nanoseconds t lies before the header time of the frame being filled, cut at 4,294,967,295; an empty frame tells
-- nothing (docs/RULES.md, "A clock that steps back")
unfoldable pub back_for : Meter → Time → Nanos
back_for m t = pick (m.filled == 0) (record { 0 = 0 }) (back_in (elapsed (ns m.time) (ns t)))

-- close, unless it is empty, if t precedes the header time, the offset would pass 65,535, or the item doesn't fit in F (rule 2)
unfoldable pub closes_for : Meter → Time → Offer → ℕ → Bool
closes_for m t o n =
    not (m.filled == 0)
    && (not (is_within (elapsed (ns m.time) (ns t))) || nat_lt m.size (m.filled + item_length (item_of m.lost (record { 0 = 0 }) o) n))

-- the slot behind the last waiting frame, eight slots in a ring
unfoldable pub slot_of : Meter → ℕ
slot_of m = (m.first + m.waiting) % 8

-- a count of losses rises by 1, stopping at 4,294,967,295 (rules 3 and 8)
unfoldable pub counted : ℕ → ℕ
counted losses = min (losses + 1) 4294967295

-- closing with fewer than Q waiting queues the frame; with Q waiting it is discarded and lost becomes pending (rule 3)
unfoldable pub closed_meter : Meter → Meter
closed_meter m = pick (nat_lt m.waiting m.room)
    (record {
      size = m.size;
      room = m.room;
      deadline = m.deadline;
      filled = 0;
      time = m.time;
      sequence = m.sequence;
      lost = m.lost;
      discards = m.discards;
      out = m.out;
      failures = m.failures;
      first = m.first;
      waiting = m.waiting + 1;
    })
    (record {
      size = m.size;
      room = m.room;
      deadline = m.deadline;
      filled = 0;
      time = m.time;
      sequence = m.sequence;
      lost = true;
      discards = counted m.discards;
      out = m.out;
      failures = m.failures;
      first = m.first;
      waiting = m.waiting;
    })

-- where an item starts: behind the header, or behind the last item
unfoldable pub start_of : Meter → ℕ
start_of m = pick (m.filled == 0) 14 m.filled

-- after an item of n bytes at time t: in an empty frame t becomes the header time and the sequence number rises by 1, 255 to 0
-- (rule 1); lost has been shown (rule 4)
unfoldable pub placed_meter : Meter → Time → ℕ → Meter
placed_meter m t n = pick (m.filled == 0)
    (record {
      size = m.size;
      room = m.room;
      deadline = m.deadline;
      filled = 14 + n;
      time = t;
      sequence = (m.sequence + 1) % 256;
      lost = false;
      discards = m.discards;
      out = m.out;
      failures = m.failures;
      first = m.first;
      waiting = m.waiting;
    })
    (record {
      size = m.size;
      room = m.room;
      deadline = m.deadline;
      filled = m.filled + n;
      time = m.time;
      sequence = m.sequence;
      lost = false;
      discards = m.discards;
      out = m.out;
      failures = m.failures;
      first = m.first;
      waiting = m.waiting;
    })

-- taking frees room for use (rule 3); the frame is out and can be called failed (rule 7)
unfoldable pub taken_meter : Meter → Meter
taken_meter m = pick (m.waiting == 0) m
    (record {
      size = m.size;
      room = m.room;
      deadline = m.deadline;
      filled = m.filled;
      time = m.time;
      sequence = m.sequence;
      lost = m.lost;
      discards = m.discards;
      out = true;
      failures = m.failures;
      first = (m.first + 1) % 8;
      waiting = m.waiting - 1;
    })

-- the frame that is out has failed: lost becomes pending, the failure count rises, and none is out; where none is out, nothing (rule 8)
unfoldable pub failed_meter : Meter → Meter
failed_meter m = pick m.out
    (record {
      size = m.size;
      room = m.room;
      deadline = m.deadline;
      filled = m.filled;
      time = m.time;
      sequence = m.sequence;
      lost = true;
      discards = m.discards;
      out = false;
      failures = counted m.failures;
      first = m.first;
      waiting = m.waiting;
    })
    m
