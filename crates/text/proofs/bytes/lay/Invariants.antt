use Rattle.text.proofs.BytesLaws.{Laying}
use Rattle.text.proofs.bytes.lay.Given as goal

abbrev pub invariant-loop-i : goal.invariant-loop-i
invariant-loop-i l = Laying l.word l.fn.out l.out l.i
