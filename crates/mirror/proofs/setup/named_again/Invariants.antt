use Rattle.std.proofs.Common.{◌≡◌, length}
use Rattle.mirror.specs.Setup.{named_again}
use Rattle.mirror.proofs.setup.named_again.Given as goal

abbrev pub invariant-loop-rest : goal.invariant-loop-rest
invariant-loop-rest l = named_again l.kind l.id l.pairs ≡ named_again l.kind l.id l.rest

abbrev pub decreases-loop-rest : goal.decreases-loop-rest
decreases-loop-rest l = length l.rest
