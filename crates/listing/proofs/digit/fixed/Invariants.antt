use Rattle.listing.proofs.FixedLaws.{Fixing}
use Rattle.listing.proofs.digit.fixed.Given as goal

abbrev pub invariant-loop-i : goal.invariant-loop-i
invariant-loop-i g l = Fixing g.row.BASE g.row.WIDTH l.v l.digits l.x l.i
