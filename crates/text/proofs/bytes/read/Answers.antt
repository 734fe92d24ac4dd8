use Rattle.std.proofs.Common.{rules, sym, ◌∙◌, arith}
use Rattle.text.proofs.DigitLaws.{all_hexadecimal}
use Rattle.text.proofs.BytesLaws.{dashed, filled, filled_wrong, filled_small, too_short, odd, no_digit, good, pairs-length}
use Rattle.text.proofs.bytes.read.Goals as goal

pub returns-then-eq : goal.returns-then-eq
returns-then-eq c = dashed c.args.word.now (search rules)

pub returns-then-n-eq0 : goal.returns-then-n-eq0
returns-then-n-eq0 c = filled_wrong (too_short _ (search rules) c.if-n-eq0.true)

pub returns-then-word-ne0 : goal.returns-then-word-ne0
returns-then-word-ne0 c = filled_wrong (odd _ (search rules) c.if-word-ne0.true)

pub returns-then-out-n : goal.returns-then-out-n
returns-then-out-n c = filled_small (omega (arith, pairs-length c.args.word.now))

pub returns-then-not-all_hex : goal.returns-then-not-all_hex
returns-then-not-all_hex c = filled_wrong (no_digit _ (search rules) (sym (all_hexadecimal _) ∙ sym c.if-not-all_hex.ensures))

pub lay-requires-clause-word_value : goal.lay-requires-clause-word_value
lay-requires-clause-word_value c = sym (all_hexadecimal _) ∙ sym c.if-not-all_hex.ensures

pub returns : goal.returns
returns c =
    let n = pairs-length c.args.word.now in
    filled (good _ (search rules) c.if-n-eq0.false c.if-word-ne0.false (sym (all_hexadecimal _) ∙ sym c.if-not-all_hex.ensures)) (omega (arith, n)) c.lay.ensures (sym n)
