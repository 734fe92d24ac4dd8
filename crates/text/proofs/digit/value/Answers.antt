use Rattle.std.proofs.Common.{◌∙◌, ap}
use Rattle.std.specs.Prelude.{Some}
use Rattle.text.proofs.DigitLaws.{digit_none, digit_some}
use Rattle.text.proofs.digit.value.Goals as goal

pub returns-in_err-digit : goal.returns-in_err-digit
returns-in_err-digit c = c.from_residual.ensures ∙ digit_none c.args.c c.from.ensures c.in_err-digit.was c.to_digit.ensures.value

pub returns : goal.returns
returns c = ap Some c.from-2.ensures ∙ digit_some c.args.c _ c.from.ensures c.in_ok-digit.was c.to_digit.ensures.value
