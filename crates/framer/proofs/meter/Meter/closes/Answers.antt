use Rattle.std.proofs.Common.{sym, ap, ◌∙◌}
use Rattle.framer.specs.Meter.{is_within}
use Rattle.codec.specs.Item.{item_length}
use Rattle.framer.proofs.FramerLaws.{closes_never, closes_far, closes_over, closes_by}
use Rattle.framer.proofs.meter.Meter.closes.Goals as goal

pub returns-then-self-eq0 : goal.returns-then-self-eq0
returns-then-self-eq0 c = closes_never _ _ _ _ c.if-self-eq0.true

pub returns-then-not-is_ticks : goal.returns-then-not-is_ticks
returns-then-not-is_ticks c =
    closes_far _ _ _ _ c.if-self-eq0.false (sym (c.is_ticks.ensures ∙ ap is_within c.measure.ensures) ∙ c.if-not-is_ticks.true)

pub returns-then-self : goal.returns-then-self
returns-then-self c =
    closes_over _ _ _ _ c.if-self-eq0.false (sym (c.is_ticks.ensures ∙ ap is_within c.measure.ensures) ∙ c.if-not-is_ticks.false) c.if-self.true

pub returns : goal.returns
returns c =
    closes_by _ _ _ _ _ c.if-self-eq0.false (sym (c.is_ticks.ensures ∙ ap is_within c.measure.ensures) ∙ c.if-not-is_ticks.false) c.if-self.false
    (c.item_len.ensures.is ∙ ap (λ it. item_length it c.args.n) c.item_of-item.ensures)
