use Rattle.std.proofs.Common.{sym}
use Rattle.codec.proofs.NumberLaws.{down, down_last, unwritten, length-be}
use Rattle.codec.proofs.number.put_be.Goals as goal

pub returns-in_err-next : goal.returns-in_err-next
returns-in_err-next c = unwritten c.from_residual.ensures c.in_err-next.ensures.room (sym (length-be _ _))

pub loop-i-preserved : goal.loop-i-preserved
loop-i-preserved c = down _ c.loop-i.invariant c.loop-i-test.true c.in_ok-next.ensures.room.1 c.low8.ensures

pub returns : goal.returns
returns c = let r = c.in_ok-next.ensures.room in down_last c.args.n c.loop-i.invariant c.loop-i-test.false r.0 r.1
