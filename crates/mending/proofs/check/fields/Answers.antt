use Rattle.std.proofs.Common.{arith}
use Rattle.mending.proofs.LineLaws.{said}
use Rattle.mending.proofs.check.fields.Goals as goal

pub returns : goal.returns
returns c = said _ _ c.row.ensures c.put.ensures (omega arith) (omega arith)
