use Rattle.std.proofs.Common.{refl}
use Rattle.bus.specs.Source.{stopped_source}
use Rattle.mirror.specs.Source.{stop_of}
use Rattle.mirror.proofs.MirrorLaws.{stored_by}
use Rattle.mirror.proofs.engine.Engine.stop.Goals as goal

pub returns : goal.returns
unfolding stop_of
returns c = stored_by stopped_source _ _ _ _ _ _ _ _ c.index-k.ensures.is refl c.stop.ensures c.known.ensures c.store.ensures
