use Rattle.std.proofs.Common.{arith}
use Rattle.mending.proofs.LineLaws.{said, rest_some}
use Rattle.mending.proofs.check.rest.Goals as goal

pub returns : goal.returns
returns c = rw (← c.inside-n.ensures, rest_some _ c.if-n-eq0.false) (said _ _ (rw c.from.ensures at c.row.ensures) c.put.ensures (omega arith) (omega arith))
