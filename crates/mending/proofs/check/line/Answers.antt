use Rattle.std.proofs.Common.{arith}
use Rattle.mending.proofs.LineLaws.{named, named_most}
use Rattle.mending.proofs.check.line.Goals as goal

pub row-requires-clause-name_most : goal.row-requires-clause-name_most
row-requires-clause-name_most c = named_most _ c.name.ensures

pub returns-in-Ok : goal.returns-in-Ok
returns-in-Ok c = rw c.in-Ok.is (named _ _ _ c.name.ensures c.row.ensures)

pub returns-in-Err : goal.returns-in-Err
returns-in-Err c = rw (c.in-Err.is, ← c.from.ensures) c.row-in-Err.ensures
