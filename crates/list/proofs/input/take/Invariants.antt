-- What is left of the piece gets shorter.
use Rattle.std.proofs.Common.{length}
use Rattle.list.proofs.input.take.Given as goal

abbrev pub decreases-loop-rest : goal.decreases-loop-rest
decreases-loop-rest g l = length l.rest
