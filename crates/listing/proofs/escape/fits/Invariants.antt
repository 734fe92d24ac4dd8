use Rattle.listing.specs.Line.{escape_of}
use Rattle.listing.proofs.SpreadLaws.{Fitting}
use Rattle.listing.proofs.escape.fits.Given as goal

abbrev pub invariant-loop-b : goal.invariant-loop-b
invariant-loop-b l = Fitting escape_of l.src l.room l.left l.b-index
