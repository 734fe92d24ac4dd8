use Rattle.mirror.proofs.MirrorLaws.{reset_by}
use Rattle.mirror.proofs.engine.Engine.reset.Goals as goal

pub returns : goal.returns
returns c = reset_by _ _ _ _ _ _ c.reset_all-self.ensures c.empty-self.ensures
