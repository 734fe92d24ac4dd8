use Rattle.codec.proofs.NumberLaws.{Up}
use Rattle.codec.proofs.number.value.Given as goal

abbrev pub invariant-loop-b : goal.invariant-loop-b
invariant-loop-b l = Up l.bytes l.x l.b-index
