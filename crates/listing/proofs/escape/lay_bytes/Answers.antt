use Rattle.listing.proofs.SpreadLaws.{spreading_more, spreading_end}
use Rattle.listing.proofs.escape.lay_bytes.Goals as goal

pub loop-b-preserved : goal.loop-b-preserved
loop-b-preserved c = spreading_more c.loop-b.invariant c.loop-b-test.true c.lay_byte-k.ensures

pub returns : goal.returns
returns c = spreading_end c.loop-b.invariant c.loop-b-test.false c.requires
