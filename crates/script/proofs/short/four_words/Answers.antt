use Rattle.std.proofs.Common.{rules, arith, ◌≡◌}
use Rattle.std.specs.Prelude.{codes}
use Rattle.std.proofs.lemmas.Slice.Eq.{text_from_reads}
use Rattle.script.specs.Call.{four_words_of}
use Rattle.script.proofs.short.four_words.Goals as goal

pub returns-in-switch : goal.returns-in-switch
unfolding four_words_of
returns-in-switch c =
    let e : c.args.name.now ≡ codes "switch" = text_from_reads _ _ (omega arith) (search rules) in
    rw e c.switched.ensures

pub returns-in-102 : goal.returns-in-102
unfolding four_words_of
returns-in-102 c =
    let e : c.args.name.now ≡ codes "flexray-state" = text_from_reads _ _ (omega arith) (search rules) in
    rw e c.flexray_state.ensures
