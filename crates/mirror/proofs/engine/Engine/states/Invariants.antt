use Rattle.std.proofs.Common.{◌≡◌, ◌≤◌, ◌-◌}
use Rattle.mirror.specs.Tick.{states_of}
use Rattle.mirror.proofs.engine.Engine.states.Given as goal

abbrev pub invariant-loop-k : goal.invariant-loop-k
invariant-loop-k l = record {
  most : l.k-end ≤ 8;
  same : states_of l.k-end 0 l.initial.e l.t ≡ states_of (l.k-end - l.k) l.k l.e l.t;
}
