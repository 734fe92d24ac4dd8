use Rattle.std.proofs.Common.{◌∙◌, ◌+◌, ◌≤◌, sym, length, arith}
use Rattle.codec.specs.Item.{encode}
use Rattle.codec.proofs.NumberLaws.{unwritten, from_laid}
use Rattle.codec.proofs.ItemLaws.{ok_short, ok_ident, encode-length, item_laid}
use Rattle.codec.proofs.item.write_item.Goals as goal

pub overflow_cast-n : goal.overflow_cast-n
overflow_cast-n c = omega (arith, ok_short _ _ (sym c.item_ok.ensures ∙ c.if-not-item_ok.false))

pub returns-in_err-get_part : goal.returns-in_err-get_part
returns-in_err-get_part c =
    unwritten c.from_residual.ensures c.in_err-get_part.ensures.room (omega (arith, encode-length c.args.item c.args.payload.now))

pub lay_ident-d-requires-clause-ident_value : goal.lay_ident-d-requires-clause-ident_value
lay_ident-d-requires-clause-ident_value c = ok_ident _ _ (sym c.item_ok.ensures ∙ c.if-not-item_ok.false)

pub lay_load-requires-clause-payload_len_bound : goal.lay_load-requires-clause-payload_len_bound
lay_load-requires-clause-payload_len_bound c =
    omega (arith, ok_short _ _ (sym c.item_ok.ensures ∙ c.if-not-item_ok.false))

pub returns : goal.returns
returns c =
    let r = c.in_ok-get_part.ensures.room in
    let n : c.args.at + length (encode c.args.item c.args.payload.now) ≤ length c.args.out.now =
    omega (arith, encode-length c.args.item c.args.payload.now, r.0, r.1) in
    from_laid (sym c.item_ok.ensures ∙ c.if-not-item_ok.false) n
    (item_laid _ c.args.item c.args.payload.now c.lay_front-a.ensures c.lay_state-b.ensures c.lay_ident-d.ensures c.lay_load.ensures
    c.flags_of-flags.ensures n)
