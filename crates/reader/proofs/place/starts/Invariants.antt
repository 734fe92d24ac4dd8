use Rattle.std.proofs.Common.{◌≡◌}
use Rattle.reader.specs.Frame.{starts_of}
use Rattle.reader.proofs.place.starts.Given as goal

abbrev pub invariant-loop-read : goal.invariant-loop-read
invariant-loop-read l =
    (l.read-iterator.frame.now ≡ l.frame) × (starts_of l.frame l.place 14 ≡ starts_of l.frame l.place l.read-iterator.place)
