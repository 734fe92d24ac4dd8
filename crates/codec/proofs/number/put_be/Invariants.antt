use Rattle.codec.proofs.NumberLaws.{Down}
use Rattle.codec.proofs.number.put_be.Given as goal

abbrev pub invariant-loop-i : goal.invariant-loop-i
invariant-loop-i l = Down l.initial.out l.at l.next l.fn.v l.out l.x l.i
