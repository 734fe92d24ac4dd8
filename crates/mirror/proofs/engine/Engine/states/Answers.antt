use Rattle.std.proofs.Common.{◌∙◌}
use Rattle.mirror.proofs.MirrorLaws.{states_step}
use Rattle.mirror.proofs.engine.Engine.states.Goals as goal

pub loop-k-preserved : goal.loop-k-preserved
loop-k-preserved c = record {
  most = c.loop-k.invariant.most;
  same = c.loop-k.invariant.same ∙ states_step _ _ _ _ _ c.loop-k-test.true c.tick_source-e.ensures;
}
