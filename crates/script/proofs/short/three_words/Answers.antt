use Rattle.std.proofs.Common.{rules, arith, ◌≡◌}
use Rattle.std.specs.Prelude.{codes}
use Rattle.std.proofs.lemmas.Slice.Eq.{text_from_reads}
use Rattle.script.specs.Call.{three_words_of}
use Rattle.script.proofs.short.three_words.Goals as goal

pub returns-in-remove : goal.returns-in-remove
unfolding three_words_of
returns-in-remove c =
    let e : c.args.name.now ≡ codes "remove" = text_from_reads _ _ (omega arith) (search rules) in
    rw e c.removed.ensures

pub returns-in-rewrite : goal.returns-in-rewrite
unfolding three_words_of
returns-in-rewrite c =
    let e : c.args.name.now ≡ codes "rewrite" = text_from_reads _ _ (omega arith) (search rules) in
    rw e (search rules)

pub returns-in-payload : goal.returns-in-payload
unfolding three_words_of
returns-in-payload c =
    let e : c.args.name.now ≡ codes "payload" = text_from_reads _ _ (omega arith) (search rules) in
    rw e (search rules)

pub returns-in-108 : goal.returns-in-108
unfolding three_words_of
returns-in-108 c =
    let e : c.args.name.now ≡ codes "lin-state" = text_from_reads _ _ (omega arith) (search rules) in
    rw e c.lin_state.ensures
