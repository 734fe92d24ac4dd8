use Rattle.std.proofs.Common.{◌≡◌}
use Rattle.reader.specs.Frame.{walk_of}
use Rattle.reader.proofs.frame.judge.Given as goal

abbrev pub invariant-loop-read : goal.invariant-loop-read
invariant-loop-read l =
    (l.read-iterator.frame.now ≡ l.frame) × (walk_of l.frame 14 ≡ walk_of l.frame l.read-iterator.place)
