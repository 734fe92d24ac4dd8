use Rattle.std.proofs.Common.{rules, arith, ◌≡◌}
use Rattle.std.specs.Prelude.{codes}
use Rattle.std.proofs.lemmas.Slice.Eq.{text_from_reads}
use Rattle.script.specs.Call.{six_words_of}
use Rattle.script.proofs.long.six_words.Goals as goal

pub returns-in-99 : goal.returns-in-99
unfolding six_words_of
returns-in-99 c =
    let e : c.args.name.now ≡ codes "can-state" = text_from_reads _ _ (omega arith) (search rules) in
    rw e c.can_state.ensures

pub returns-in-102 : goal.returns-in-102
unfolding six_words_of
returns-in-102 c =
    let e : c.args.name.now ≡ codes "flexray-error" = text_from_reads _ _ (omega arith) (search rules) in
    rw e c.error.ensures
