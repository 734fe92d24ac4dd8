use Rattle.listing.proofs.FixedLaws.{fixing_more, fixing_end}
use Rattle.listing.proofs.digit.fixed.Goals as goal

pub loop-i-preserved : goal.loop-i-preserved
loop-i-preserved g c = fixing_more _ c.loop-i.invariant c.loop-i-test.true c.requires.some c.requires.most c.written.ensures

pub returns : goal.returns
returns g c = fixing_end c.loop-i.invariant c.loop-i-test.false
