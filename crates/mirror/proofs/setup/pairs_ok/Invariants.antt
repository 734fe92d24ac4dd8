use Rattle.std.proofs.Common.{◌≡◌, length}
use Rattle.mirror.specs.Setup.{pairs_ok}
use Rattle.mirror.proofs.setup.pairs_ok.Given as goal

abbrev pub invariant-loop-rest : goal.invariant-loop-rest
invariant-loop-rest l = pairs_ok l.pairs ≡ pairs_ok l.rest

abbrev pub decreases-loop-rest : goal.decreases-loop-rest
decreases-loop-rest l = length l.rest
