use Rattle.std.proofs.Common.{refl, ◌∙◌}
use Rattle.bus.specs.Source.{removed_filter}
use Rattle.mirror.specs.Source.{remove_of}
use Rattle.mirror.proofs.MirrorLaws.{stored_by, source_is}
use Rattle.mirror.proofs.engine.Engine.remove.Goals as goal

pub returns : goal.returns
unfolding remove_of
returns c =
    stored_by (λ s. removed_filter s c.args.number) _ _ _ _ _ _ _ _ c.index-k.ensures.is refl c.remove_filter.ensures
    (c.removes.ensures ∙ rw (source_is _ _ _ c.index-k.ensures.is)) c.store.ensures
