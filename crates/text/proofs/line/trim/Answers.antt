use Rattle.std.proofs.Common.{rules, tests, eqb, ap, take, length, ◌-◌, ◌∙◌}
use Rattle.std.specs.Prelude.{reverse}
use Rattle.std.proofs.lemmas.Iterator.Adapters.{YieldsList-from_rev_slice}
use Rattle.std.proofs.lemmas.Iterator.Consumers.{count_from_yields_List}
use Rattle.std.proofs.lemmas.Iterator.Search.{YieldsList-from_take_while}
use Rattle.std.proofs.lemmas.List.Folds.{length-prefix_len}
use Rattle.text.proofs.line.trim.Goals as goal

pub returns : goal.returns
returns c =
    let s = c.args.s.now in
    ap (λ n. take (length s - n) s)
    (count_from_yields_List c.take_while.result _ c.count-spaces.ensures.ran (YieldsList-from_take_while _ (λ x. eqb x 32) (YieldsList-from_rev_slice s (cc)) c.take_while.ensures.closure c.take_while.ensures.done (λ x b q k. search (rules, tests))) ∙ length-prefix_len (λ x. eqb x 32) (reverse s))
