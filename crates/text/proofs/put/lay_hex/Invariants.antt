use Rattle.std.proofs.Common.{◌+◌, ◌*◌}
use Rattle.text.proofs.PutLaws.{Hexing}
use Rattle.text.proofs.put.lay_hex.Given as goal

abbrev pub invariant-loop-i : goal.invariant-loop-i
invariant-loop-i l = Hexing l.fn.out l.at l.src l.out l.i (l.at + 2 * l.i)
