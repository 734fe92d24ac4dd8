use Rattle.std.proofs.Common.{refl, sym, ◌∙◌}
use Rattle.mirror.proofs.MirrorLaws.{tick_quiet, tick_shown}
use Rattle.mirror.proofs.engine.Engine.tick_source.Goals as goal

pub returns-then-not-tick_due : goal.returns-then-not-tick_due
returns-then-not-tick_due c = tick_quiet _ _ _ _ _ refl c.calm.ensures (sym c.tick_due.ensures ∙ c.if-not-tick_due.true)

pub returns : goal.returns
returns c =
    tick_shown _ _ _ _ _ _ _ refl c.calm.ensures (sym c.tick_due.ensures ∙ c.if-not-tick_due.false) c.state_offer.ensures c.add-self.ensures
