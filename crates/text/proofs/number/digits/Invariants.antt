use Rattle.text.proofs.NumberLaws.{Reading}
use Rattle.text.proofs.number.digits.Given as goal

abbrev pub invariant-loop-c : goal.invariant-loop-c
invariant-loop-c l = Reading l.base l.most l.s l.v l.c-index
