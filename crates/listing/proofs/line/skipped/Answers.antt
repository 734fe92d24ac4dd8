use Rattle.std.proofs.Common.{arith}
use Rattle.text.proofs.DraftLaws.{row_wrote}
use Rattle.listing.proofs.line.skipped.Goals as goal

pub returns : goal.returns
returns c = row_wrote {n = 256} 8 2 _ _ c.new-line.ensures c.add_row.ensures c.put.ensures (omega arith) (omega arith) (omega arith)
