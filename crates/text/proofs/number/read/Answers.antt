use Rattle.text.proofs.NumberLaws.{plain, after_x}
use Rattle.text.proofs.number.read.Goals as goal

pub returns-in-Some : goal.returns-in-Some
returns-in-Some c = after_x _ _ _ c.in-Some.ensures.cases.0 c.in-Some.ensures.cases.1 c.digits.ensures

pub returns-in-None : goal.returns-in-None
returns-in-None c = plain _ _ c.in-None.ensures.cases c.digits-in-None.ensures
