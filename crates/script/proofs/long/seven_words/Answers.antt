use Rattle.std.proofs.Common.{rules, arith, ◌≡◌}
use Rattle.std.specs.Prelude.{codes}
use Rattle.std.proofs.lemmas.Slice.Eq.{text_from_reads}
use Rattle.script.specs.Call.{seven_words_of}
use Rattle.script.proofs.long.seven_words.Goals as goal

pub returns-in-conflict : goal.returns-in-conflict
unfolding seven_words_of
returns-in-conflict c =
    let e : c.args.name.now ≡ codes "conflict" = text_from_reads _ _ (omega arith) (search rules) in
    rw e c.conflict.ensures

pub returns-in-102 : goal.returns-in-102
unfolding seven_words_of
returns-in-102 c =
    let e : c.args.name.now ≡ codes "flexray-filter" = text_from_reads _ _ (omega arith) (search rules) in
    rw e c.slots.ensures
