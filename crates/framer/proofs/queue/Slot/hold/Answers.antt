use Rattle.std.proofs.Common.{arith}
use Rattle.codec.proofs.NumberLaws.{kept}
use Rattle.framer.specs.Queue.{held}
use Rattle.framer.proofs.queue.Slot.hold.Goals as goal

pub returns : goal.returns
unfolding held
returns c = rw (kept c.put_bytes.ensures (omega arith))
