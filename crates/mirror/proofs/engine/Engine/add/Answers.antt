use Rattle.std.proofs.Common.{refl, sym, ◌∙◌}
use Rattle.mirror.proofs.MirrorLaws.{add_by}
use Rattle.mirror.proofs.engine.Engine.add.Goals as goal

pub returns-then-is_ok : goal.returns-then-is_ok
returns-then-is_ok c =
    (add_by _ _ _ _ _ c.index-k.ensures.is refl c.adds-answer.ensures _ refl _ c.add_filter.ensures).0 (sym c.is_ok.ensures.value ∙ c.if-is_ok.true)

pub returns-else-is_ok : goal.returns-else-is_ok
returns-else-is_ok c =
    (add_by _ _ _ _ _ c.index-k.ensures.is refl c.adds-answer.ensures _ refl _ refl).1 (sym c.is_ok.ensures.value ∙ c.if-is_ok.false)
