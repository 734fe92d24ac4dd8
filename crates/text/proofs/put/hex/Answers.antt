use Rattle.std.proofs.Common.{rules, arith}
use Rattle.text.proofs.PutLaws.{hex_full, hex_wrote}
use Rattle.text.proofs.put.hex.Goals as goal

pub returns-in_err-next : goal.returns-in_err-next
returns-in_err-next c = rw c.from_residual.ensures (hex_full c.args.src.now (search rules) c.in_err-next.ensures.room)

pub returns : goal.returns
returns c =
    let room = c.in_ok-next.ensures.room in
    rw room.0 (hex_wrote c.args.src.now (search rules) (omega arith) c.lay_hex.ensures)
