use Rattle.std.proofs.Common.{rules, tests, eqb}
use Rattle.std.proofs.lemmas.Iterator.{YieldsList-from_slice}
use Rattle.std.proofs.lemmas.Iterator.Search.{position_from_yields_List}
use Rattle.text.proofs.LineLaws.{found}
use Rattle.text.proofs.line.find.Goals as goal

pub returns : goal.returns
returns c =
    let e = position_from_yields_List (λ x. eqb x c.args.b) _ _ c.position.result c.position.ensures.ran (YieldsList-from_slice c.args.s.now (cc)) (λ x b q k. search (rules, tests)) in
    rw c.unwrap_or.ensures (found c.args.s.now c.args.b c.position.result e)
