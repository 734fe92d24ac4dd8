use Rattle.std.proofs.Common.{sym, ap, ◌∙◌, length, arith}
use Rattle.text.proofs.ShortLaws.{short_then, short_put, short_as}
use Rattle.listing.proofs.EscapeLaws.{escape_plain, escape_code}
use Rattle.listing.proofs.escape.lay_byte.Goals as goal

pub lay-requires : goal.lay-requires
lay-requires c = omega (arith, ap length (escape_plain _ (sym c.plain.ensures ∙ c.if-plain.true)))

pub returns-then-plain : goal.returns-then-plain
returns-then-plain c = short_as c.lay.ensures (sym (escape_plain _ (sym c.plain.ensures ∙ c.if-plain.true))) (omega arith)

pub lay-a-requires : goal.lay-a-requires
lay-a-requires c = omega (arith, ap length (escape_code _ (sym c.plain.ensures ∙ c.if-plain.false)))

pub returns : goal.returns
returns c = short_as (short_then c.lay-a.ensures (short_put 2 c.hex.ensures (omega (arith, ap length (escape_code _ (sym c.plain.ensures ∙ c.if-plain.false)))) (omega arith))) (sym (escape_code _ (sym c.plain.ensures ∙ c.if-plain.false))) (omega arith)
