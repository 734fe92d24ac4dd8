use Rattle.text.proofs.PutLaws.{Spelling}
use Rattle.text.proofs.put.spell.Given as goal

abbrev pub invariant-loop-i : goal.invariant-loop-i
invariant-loop-i l = Spelling l.v l.text l.x l.i
