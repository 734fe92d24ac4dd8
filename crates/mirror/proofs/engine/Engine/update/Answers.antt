use Rattle.std.proofs.Common.{refl, ◌∙◌}
use Rattle.bus.specs.Update.{updated}
use Rattle.mirror.specs.Source.{update_of}
use Rattle.mirror.proofs.MirrorLaws.{stored_by, source_is}
use Rattle.mirror.proofs.engine.Engine.update.Goals as goal

pub returns : goal.returns
unfolding update_of
returns c =
    stored_by (λ s. updated s c.args.u) _ _ _ _ _ _ _ _ c.index-k.ensures.is refl c.apply.ensures
    (c.updates.ensures ∙ rw (source_is _ _ _ c.index-k.ensures.is)) c.store.ensures
