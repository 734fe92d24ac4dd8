use Rattle.std.proofs.Common.{◌≡◌, ◌≤◌, ◌+◌, ◌*◌, length}
use Rattle.mirror.specs.Setup.{named}
use Rattle.mirror.proofs.setup.named.Given as goal

abbrev pub invariant-loop-rest : goal.invariant-loop-rest
invariant-loop-rest l = record {
  within : 2 * l.k + length l.rest ≤ 16;
  whole : length l.sources ≡ 8;
  same : named 0 l.pairs l.initial.sources ≡ named l.k l.rest l.sources;
}

abbrev pub decreases-loop-rest : goal.decreases-loop-rest
decreases-loop-rest l = length l.rest
