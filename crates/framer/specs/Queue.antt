-- Closed frames that wait (rules 3 and 7).
use Rattle.std.specs.Prelude.{ℕ, min, ◌&&◌, List, [], length, replicate, nat_le, get_or, set}
use Rattle.codec.specs.Choice.{pick}
use Rattle.codec.specs.Number.{over}
use Rattle.codec.specs.Field.{bytes_at}
use Rattle.framer.specs.declared.queue.Slot.{Slot}
use Rattle.framer.specs.declared.queue.Queue.{Queue}

unfoldable pub empty_queue : Queue
empty_queue = record { slots = replicate 8 (record { bytes = replicate 1024 0; length = 0 }) }

-- what an array holds where there is nothing
abbrev pub no_slot : Slot
no_slot = record { bytes = []; length = 0 }

abbrev pub slot_at : Queue → ℕ → Slot
slot_at q k = get_or q.slots k no_slot

-- the frame stands at the front of its slot, and its length beside it; what no slot holds is not put
unfoldable pub held : Slot → List ℕ → Slot
held slot frame = record { bytes = over slot.bytes 0 frame; length = length frame }

unfoldable pub queued : Queue → ℕ → List ℕ → Queue
queued q k frame = pick (nat_le (length frame) 1024 && nat_le k 7) (record { slots = set q.slots k (held (slot_at q k) frame) }) q

-- no frame is longer than its slot
unfoldable pub length_at : Queue → ℕ → ℕ
length_at q k = pick (nat_le k 7) (min (slot_at q k).length 1024) 0

abbrev pub frame_at : Queue → ℕ → List ℕ
frame_at q k = bytes_at (slot_at q k).bytes 0 (length_at q k)
