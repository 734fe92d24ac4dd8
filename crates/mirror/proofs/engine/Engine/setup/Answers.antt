use Rattle.std.proofs.Common.{sym, ◌∙◌}
use Rattle.mirror.proofs.MirrorLaws.{set-up, short, few_pairs}
use Rattle.mirror.proofs.engine.Engine.setup.Goals as goal

pub named-self-requires : goal.named-self-requires
named-self-requires c = few_pairs _ (set-up _ _ _ _ _ _ (sym c.may_set_up.ensures ∙ c.in_default.is)).2

pub overflow_cast-deadline : goal.overflow_cast-deadline
overflow_cast-deadline c = record { fits = short _ _ _ (set-up _ _ _ _ _ _ (sym c.may_set_up.ensures ∙ c.in_default.is)).1 }
