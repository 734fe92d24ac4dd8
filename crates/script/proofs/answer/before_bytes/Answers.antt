use Rattle.std.proofs.Common.{length-append, arith}
use Rattle.codec.proofs.NumberLaws.{full}
use Rattle.text.specs.Put.{hex_of}
use Rattle.text.proofs.ShortLaws.{after_front}
use Rattle.script.proofs.answer.before_bytes.Goals as goal

pub returns-in_err-middle : goal.returns-in_err-middle
returns-in_err-middle c =
    let room = c.in_err-middle.ensures.room in
    rw c.from_residual.ensures (full (omega (arith, length-append c.args.front.now (hex_of c.args.part.now))))

pub returns-in_err-get_part : goal.returns-in_err-get_part
returns-in_err-get_part c =
    let middle = c.in_ok-middle.ensures.room in
    let room = c.in_err-get_part.ensures.room in
    rw c.from_residual-in_err-get_part.ensures (full (omega (arith, length-append c.args.front.now (hex_of c.args.part.now), c.hex_len.ensures)))

pub returns : goal.returns
returns c =
    let middle = c.in_ok-middle.ensures.room in
    let room = c.in_ok-get_part.ensures.room in
    let e = middle.0 in
    after_front c.put_bytes.ensures (rw e at c.hex.ensures) (omega (arith, c.hex_len.ensures))
