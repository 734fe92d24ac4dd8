use Rattle.std.proofs.Common.{arith}
use Rattle.text.proofs.ShortLaws.{short_put}
use Rattle.listing.proofs.escape.lay.Goals as goal

pub returns : goal.returns
returns c = short_put _ c.put_bytes.ensures c.requires (omega arith)
