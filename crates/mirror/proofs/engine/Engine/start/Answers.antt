use Rattle.std.proofs.Common.{refl}
use Rattle.bus.specs.Source.{started_source}
use Rattle.mirror.specs.Source.{start_of}
use Rattle.mirror.proofs.MirrorLaws.{stored_by}
use Rattle.mirror.proofs.engine.Engine.start.Goals as goal

pub returns : goal.returns
unfolding start_of
returns c = stored_by started_source _ _ _ _ _ _ _ _ c.index-k.ensures.is refl c.start.ensures c.known.ensures c.store.ensures
