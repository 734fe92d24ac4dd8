use Rattle.std.proofs.Common.{sym, refl, ◌∙◌}
use Rattle.framer.proofs.FramerLaws.{pass_unsound, pass_empty, pass_by, small}
use Rattle.framer.proofs.framer.Framer.pass.Goals as goal

pub returns-then-not-sound : goal.returns-then-not-sound
returns-then-not-sound c = pass_unsound _ _ (sym c.sound.ensures ∙ c.if-not-sound.true)

pub returns-then-m-eq0 : goal.returns-then-m-eq0
returns-then-m-eq0 c = pass_empty _ _ (sym c.sound.ensures ∙ c.if-not-sound.false) c.if-m-eq0.true

pub close-requires : goal.close-requires
close-requires c = small _ (sym c.sound.ensures ∙ c.if-not-sound.false)

pub returns-then-overdue : goal.returns-then-overdue
returns-then-overdue c =
    pass_by _ _ _ _ (sym c.sound.ensures ∙ c.if-not-sound.false) c.if-m-eq0.false (sym c.overdue.ensures ∙ c.if-overdue.true) c.close.ensures

pub returns : goal.returns
returns c =
    pass_by _ _ _ _ (sym c.sound.ensures ∙ c.if-not-sound.false) c.if-m-eq0.false (sym c.overdue.ensures ∙ c.if-overdue.false) refl
