use Rattle.std.proofs.Common.{◌≡◌}
use Rattle.reader.proofs.FrameLaws.{Left}
use Rattle.reader.proofs.copy.rewrite_items.Given as goal

abbrev pub invariant-loop-read : goal.invariant-loop-read
invariant-loop-read l = (l.read-iterator.frame.now ≡ l.frame) × Left l.frame l.initial.out l.out l.read-iterator.place
