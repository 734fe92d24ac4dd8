use Rattle.std.proofs.Common.{sym, ◌∙◌}
use Rattle.framer.proofs.FramerLaws.{add_unsound, add_long, add_closing, add_staying, place_by, small, start_least, closed-room}
use Rattle.framer.proofs.framer.Framer.add.Goals as goal

pub returns-then-not-sound : goal.returns-then-not-sound
returns-then-not-sound c = add_unsound _ _ _ _ (sym c.sound.ensures ∙ c.if-not-sound.true)

pub returns-then-n-gt254 : goal.returns-then-n-gt254
returns-then-n-gt254 c = add_long _ _ _ _ (sym c.sound.ensures ∙ c.if-not-sound.false) c.if-n-gt254.true

pub close-next-requires : goal.close-next-requires
close-next-requires c = small _ (sym c.sound.ensures ∙ c.if-not-sound.false)

pub fill-next-requires-clause-filled_bound : goal.fill-next-requires-clause-filled_bound
fill-next-requires-clause-filled_bound c = (closed-room _ _ c.close-next.ensures).0

pub fill-next-requires-clause-bound : goal.fill-next-requires-clause-bound
fill-next-requires-clause-bound c = (closed-room _ _ c.close-next.ensures).1

pub returns-then-closes : goal.returns-then-closes
returns-then-closes c =
    add_closing _ c.close-next.result _ _ _ _ (sym c.sound.ensures ∙ c.if-not-sound.false) c.if-n-gt254.false (sym c.closes.ensures ∙ c.if-closes.true)
    c.close-next.ensures (place_by c.close-next.result _ _ _ _ _ c.fill-next.ensures)

pub fill-self-requires-clause-filled_bound : goal.fill-self-requires-clause-filled_bound
fill-self-requires-clause-filled_bound c = small _ (sym c.sound.ensures ∙ c.if-not-sound.false)

pub fill-self-requires-clause-bound : goal.fill-self-requires-clause-bound
fill-self-requires-clause-bound c = start_least _ (sym c.sound.ensures ∙ c.if-not-sound.false)

pub returns : goal.returns
returns c =
    add_staying _ _ _ _ _ (sym c.sound.ensures ∙ c.if-not-sound.false) c.if-n-gt254.false (sym c.closes.ensures ∙ c.if-closes.false)
    (place_by _ _ _ _ _ _ c.fill-self.ensures)
