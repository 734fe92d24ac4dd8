use Rattle.std.proofs.Common.{rules, arith, ◌≡◌}
use Rattle.std.specs.Prelude.{codes}
use Rattle.std.proofs.lemmas.Slice.Eq.{text_from_reads}
use Rattle.script.specs.Call.{eight_words_of}
use Rattle.script.proofs.long.eight_words.Goals as goal

pub returns-in-flexray : goal.returns-in-flexray
unfolding eight_words_of
returns-in-flexray c =
    let e : c.args.name.now ≡ codes "flexray" = text_from_reads _ _ (omega arith) (search rules) in
    rw e c.flexray.ensures
