use Rattle.text.proofs.PutLaws.{hexing_end}
use Rattle.text.proofs.put.lay_hex.Goals as goal

pub returns : goal.returns
returns c = hexing_end c.loop-i.invariant c.loop-i-test.false c.requires
