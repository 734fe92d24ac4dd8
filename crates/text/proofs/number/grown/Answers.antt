use Rattle.std.proofs.Common.{◌∙◌, ap, ◌+◌, arith}
use Rattle.text.proofs.NumberLaws.{mul_over, add_over, grown_past, grown_is}
use Rattle.text.proofs.number.grown.Goals as goal

pub returns-in_err-checked_mul : goal.returns-in_err-checked_mul
returns-in_err-checked_mul c = mul_over _ _ _ _ (omega arith) c.from_residual.ensures c.in_err-checked_mul.ensures

pub returns-in_err-next : goal.returns-in_err-next
returns-in_err-next c = add_over _ _ _ _ (omega arith) c.in_ok-checked_mul.ensures.1 c.from_residual-in_err-next.ensures c.in_err-next.ensures

pub returns-then-most-next : goal.returns-then-most-next
returns-then-most-next c =
    grown_past _ _ _ _ _ (c.in_ok-next.ensures.1 ∙ ap (λ m. m + c.args.d) c.in_ok-checked_mul.ensures.1) c.if-most-next.true

pub returns-else-most-next : goal.returns-else-most-next
returns-else-most-next c =
    grown_is _ _ _ _ _ (c.in_ok-next.ensures.1 ∙ ap (λ m. m + c.args.d) c.in_ok-checked_mul.ensures.1) c.if-most-next.false
