use Rattle.std.proofs.Common.{◌+◌, ◌*◌, arith}
use Rattle.text.proofs.BytesLaws.{some_worth, worth_at, laying_more, laying_end}
use Rattle.text.proofs.bytes.lay.Goals as goal

pub unwrap-a-requires : goal.unwrap-a-requires
unwrap-a-requires c = some_worth c.args.word.now (2 * c.loop-i.i) c.requires.word_value (omega arith) c.value.ensures

pub unwrap-b-requires : goal.unwrap-b-requires
unwrap-b-requires c = some_worth c.args.word.now (2 * c.loop-i.i + 1) c.requires.word_value (omega arith) c.value-in-loop-i.ensures

pub overflow_mul-out : goal.overflow_mul-out
overflow_mul-out c = omega (arith, worth_at c.args.word.now (2 * c.loop-i.i) _ c.value.ensures c.unwrap-a.ensures)

pub overflow_add-out : goal.overflow_add-out
overflow_add-out c =
    let w = c.args.word.now in
    let i = c.loop-i.i in
    omega (arith, worth_at w (2 * i) _ c.value.ensures c.unwrap-a.ensures, worth_at w (2 * i + 1) _ c.value-in-loop-i.ensures c.unwrap-b.ensures)

pub overflow_cast-out : goal.overflow_cast-out
overflow_cast-out c =
    let w = c.args.word.now in
    let i = c.loop-i.i in
    omega (arith, worth_at w (2 * i) _ c.value.ensures c.unwrap-a.ensures, worth_at w (2 * i + 1) _ c.value-in-loop-i.ensures c.unwrap-b.ensures)

pub loop-i-preserved : goal.loop-i-preserved
loop-i-preserved c =
    let w = c.args.word.now in
    let i = c.loop-i.i in
    laying_more _ _ c.loop-i.invariant c.loop-i-test.true (worth_at w (2 * i) _ c.value.ensures c.unwrap-a.ensures).0
    (worth_at w (2 * i + 1) _ c.value-in-loop-i.ensures c.unwrap-b.ensures).0

pub returns : goal.returns
returns c = laying_end c.loop-i.invariant c.loop-i-test.false c.requires.word_len_bound
