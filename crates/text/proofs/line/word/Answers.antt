use Rattle.std.proofs.Common.{rules, tests, refl, eqb}
use Rattle.std.proofs.lemmas.Iterator.Consumers.{nth_from_yields_List}
use Rattle.std.proofs.lemmas.Iterator.Splits.{YieldsList-from_slice_split}
use Rattle.text.specs.Line.{word_of}
use Rattle.text.proofs.LineLaws.{nth_word}
use Rattle.text.proofs.line.word.Goals as goal

pub returns : goal.returns
unfolding word_of
returns c =
    let e = nth_from_yields_List c.nth.result _ c.args.k c.nth.ensures.ran
    (YieldsList-from_slice_split _ (λ x. eqb x 32) c.args.s.now c.split.ensures.rest c.split.ensures.done c.split.ensures.closure (λ x b q k. search (rules, tests))) in
    rw c.unwrap_or.ensures (nth_word c.args.s.now c.args.k c.nth.result _ refl e)
