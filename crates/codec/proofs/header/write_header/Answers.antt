use Rattle.std.proofs.Common.{◌∙◌, sym, arith}
use Rattle.codec.proofs.NumberLaws.{unwritten, from_laid}
use Rattle.codec.proofs.HeaderLaws.{header_length, header_laid}
use Rattle.codec.proofs.header.write_header.Goals as goal

pub returns-in_err-get_part : goal.returns-in_err-get_part
returns-in_err-get_part c = unwritten c.from_residual.ensures c.in_err-get_part.ensures.room (sym (header_length c.args.h))

pub returns : goal.returns
returns c =
    let r = c.in_ok-get_part.ensures.room in
    from_laid (sym c.in_range.ensures ∙ c.if-not-in_range.false) (omega (arith, header_length c.args.h, r.0, r.1))
    (header_laid c.args.h c.lay_front-a.ensures c.put_be.ensures c.put_be-2.ensures c.put_be-3.ensures (omega (arith, r.0, r.1)))
