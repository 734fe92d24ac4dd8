use Rattle.listing.specs.Line.{escape_of}
use Rattle.listing.proofs.SpreadLaws.{Spreading}
use Rattle.listing.proofs.escape.lay_bytes.Given as goal

abbrev pub invariant-loop-b : goal.invariant-loop-b
invariant-loop-b l = Spreading escape_of l.fn.out l.at l.src l.out l.b-index l.k
