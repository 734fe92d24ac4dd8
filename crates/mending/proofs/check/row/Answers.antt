use Rattle.std.proofs.Common.{arith}
use Rattle.text.proofs.DraftLaws.{row_wrote}
use Rattle.mending.proofs.check.row.Goals as goal

pub returns : goal.returns
returns c = row_wrote {n = 128} 8 3 _ _ c.new-line.ensures c.add_row.ensures c.put.ensures c.requires.name_most c.requires.most (omega arith)
