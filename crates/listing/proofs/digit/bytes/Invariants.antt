use Rattle.listing.specs.Line.{fixed_of}
use Rattle.listing.proofs.SpreadLaws.{Spreading}
use Rattle.listing.proofs.digit.bytes.Given as goal

abbrev pub invariant-loop-b : goal.invariant-loop-b
invariant-loop-b l = Spreading (fixed_of 16 2) l.fn.out l.at l.src l.out l.b-index l.k
