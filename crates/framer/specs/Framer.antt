-- The frame being filled, and the queue behind it (rules 1 to 3 and 6 to 8).
use Rattle.std.specs.Prelude.{ℕ, ◌-◌, Bool, true, not, ◌&&◌, List, length, take, replicate, ◌==◌, nat_le, nat_lt, Result, Ok, Err}
use Rattle.codec.specs.Choice.{pick}
use Rattle.codec.specs.Number.{be, over, fits_in}
use Rattle.codec.specs.Time.{ns, time_ok, overdue_of}
use Rattle.codec.specs.Header.{header_bytes}
use Rattle.codec.specs.Item.{encode, item_ok, item_length}
use Rattle.codec.specs.declared.time.Time.{Time}
use Rattle.codec.specs.declared.time.Millis.{Millis}
use Rattle.codec.specs.declared.item.Item.{Item}
use Rattle.framer.specs.Cause.{guard}
use Rattle.framer.specs.Meter.{sound_meter, empty_meter, item_of, offset_for, closes_for, slot_of, closed_meter, start_of, placed_meter, taken_meter, failed_meter}
use Rattle.framer.specs.Queue.{empty_queue, queued, length_at, frame_at}
use Rattle.framer.specs.declared.cause.Cause.{Cause}
use Rattle.framer.specs.declared.offer.Offer.{Offer}
use Rattle.framer.specs.declared.meter.Meter.{Meter}
use Rattle.framer.specs.declared.framer.Framer.{Framer}
use Rattle.framer.specs.declared.framer.Taken.{Taken}

-- bs over l from index at, if they are fit to be written and there is room
unfoldable pub written : Bool → List ℕ → ℕ → List ℕ → List ℕ
written fit l at bs = pick (fits_in fit l at (length bs)) (over l at bs) l

unfoldable pub empty_framer : ℕ → ℕ → Millis → Framer
empty_framer size room deadline =
    record { meter = empty_meter size room deadline; bytes = replicate 1024 0; queue = empty_queue }

-- closing: the bytes so far go to the queue if fewer than Q wait, and the frame is empty again (rule 3)
unfoldable pub closed : Framer → Framer
closed w = record {
  meter = closed_meter w.meter;
  bytes = replicate 1024 0;
  queue = pick (nat_lt w.meter.waiting w.meter.room) (queued w.queue (slot_of w.meter) (take w.meter.filled w.bytes)) w.queue;
}

-- in an empty frame the header is written first, with time t and the next sequence number (rule 1)
unfoldable pub begun : List ℕ → Meter → Time → List ℕ
begun l m t = pick (m.filled == 0) (written (time_ok t) l 0 (header_bytes (record { sequence = m.sequence; time = t; length = 0 }))) l

-- an item and its payload from index at, and DataLength in the header
unfoldable pub laid_out : List ℕ → ℕ → Item → List ℕ → ℕ → List ℕ
laid_out l at item payload total =
    written true (written (item_ok item (length payload)) l at (encode item payload)) 12 (be 2 total)

-- how many bytes the next item is
unfoldable pub item_size : Meter → Time → Offer → ℕ → ℕ
item_size m t o n = item_length (item_of m.lost (offset_for m t) o) n

-- the numbers, and the bytes of the frame, after the item that the offer makes at time t (rules 1 and 4)
unfoldable pub filled_meter : Meter → Time → Offer → ℕ → Meter
filled_meter m t o n = placed_meter m t (item_size m t o n)

unfoldable pub filled_bytes : List ℕ → Meter → Time → Offer → List ℕ → List ℕ
filled_bytes l m t o payload =
    laid_out (begun l m t) (start_of m) (item_of m.lost (offset_for m t) o) payload ((filled_meter m t o (length payload)).filled - 14)

unfoldable pub placed : Framer → Time → Offer → List ℕ → Framer
placed w t o payload = record {
  meter = filled_meter w.meter t o (length payload);
  bytes = filled_bytes w.bytes w.meter t o payload;
  queue = w.queue;
}

-- close first if the item asks for it; the choice of the state, and the size, is made again after a closing (rules 2 and 4)
unfoldable pub added : Framer → Time → Offer → List ℕ → Framer
added w t o payload =
    pick (closes_for w.meter t o (length payload)) (placed (closed w) t o payload) (placed w t o payload)

-- a framer that is not sound stays as it is, and so does one that is handed more than any item carries
unfoldable pub add : Framer → Time → Offer → List ℕ → Framer
add w t o payload = pick (sound_meter w.meter) (pick (nat_le (length payload) 254) (added w t o payload) w) w

-- if D isn't 0 and the frame isn't empty, t minus header time of D ms or more closes it (rule 6)
unfoldable pub passed : Framer → Time → Framer
passed w t =
    pick (sound_meter w.meter)
    (pick (not (w.meter.filled == 0) && overdue_of (ns w.meter.time) (ns t) w.meter.deadline.0) (closed w) w)
    w

-- how long the frame is that a take gets: 13, 12
unfoldable pub ready_of : Framer → ℕ → Result ℕ Cause
ready_of w room =
    guard (sound_meter w.meter) Cause.Unsound
    (guard (not (w.meter.waiting == 0)) Cause.NothingWaits
    (guard (nat_le (length_at w.queue w.meter.first) room) Cause.ShortOutput
    (Ok (length_at w.queue w.meter.first))))

-- where one is taken it no longer waits
abbrev pub left_by : Framer → Result ℕ Cause → Framer
left_by w (Ok n) = record { meter = taken_meter w.meter; bytes = w.bytes; queue = w.queue }
left_by w (Err c) = w

unfoldable pub take_of : Framer → ℕ → Taken
take_of w room = record { framer = left_by w (ready_of w room); answer = ready_of w room }

-- the oldest waiting frame at the front of the output; later output bytes stay (rule 7)
abbrev pub laid_by : Framer → List ℕ → Result ℕ Cause → List ℕ
laid_by w out (Ok n) = over out 0 (frame_at w.queue w.meter.first)
laid_by w out (Err c) = out

unfoldable pub out_of : Framer → List ℕ → List ℕ
out_of w out = laid_by w out (ready_of w (length out))

-- the frame that is out has failed, if one is; no byte is touched (rule 8)
unfoldable pub failed : Framer → Framer
failed w = record { meter = failed_meter w.meter; bytes = w.bytes; queue = w.queue }
