use Rattle.std.proofs.Common.{rules, sym, ◌∙◌}
use Rattle.text.proofs.NumberLaws.{reading_empty, reading_none, reading_more, reading_wrong, reading_over, reading_end}
use Rattle.text.proofs.number.digits.Goals as goal

pub returns-then-is_empty : goal.returns-then-is_empty
returns-then-is_empty c = reading_empty _ _ _ (search rules)

pub returns-in_err-d : goal.returns-in_err-d
returns-in_err-d c = c.from_residual.ensures ∙ reading_none c.loop-c.invariant c.loop-c-test.true c.requires.base_bound c.value.ensures c.in_err-d.was

pub returns-then-base-d : goal.returns-then-base-d
returns-then-base-d c = reading_wrong c.loop-c.invariant c.loop-c-test.true c.value.ensures c.in_ok-d.was c.if-base-d.true

pub returns-in_err-v : goal.returns-in_err-v
returns-in_err-v c =
    c.from_residual-in_err-v.ensures
    ∙ reading_over c.loop-c.invariant c.loop-c-test.true c.value.ensures c.in_ok-d.was c.requires.base_some c.if-base-d.false (sym c.grown.ensures ∙ c.in_err-v.was)

pub loop-c-preserved : goal.loop-c-preserved
loop-c-preserved c =
    reading_more c.loop-c.invariant c.loop-c-test.true c.value.ensures c.in_ok-d.was _ c.if-base-d.false (sym c.grown.ensures ∙ c.in_ok-v.was)

pub returns : goal.returns
returns c = reading_end c.loop-c.invariant c.loop-c-test.false (search rules)
