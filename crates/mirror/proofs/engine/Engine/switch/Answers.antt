use Rattle.std.proofs.Common.{sym, ◌∙◌}
use Rattle.mirror.proofs.MirrorLaws.{switched, short}
use Rattle.mirror.proofs.engine.Engine.switch.Goals as goal

pub overflow_cast-deadline : goal.overflow_cast-deadline
overflow_cast-deadline c = record { fits = short _ _ _ (switched _ _ _ _ _ (sym c.may_switch.ensures ∙ c.in_default.is)) }
