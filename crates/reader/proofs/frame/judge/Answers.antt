use Rattle.std.proofs.Common.{◌∙◌, sym, ap}
use Rattle.std.proofs.lemmas.Result.{err_from_is_err_and}
use Rattle.reader.specs.Frame.{walk_of}
use Rattle.reader.proofs.AlongLaws.{walk_end, walk_item, walk_bad}
use Rattle.reader.proofs.ItemsLaws.{gave_item, gave_refusal, gave_none}
use Rattle.reader.proofs.FrameLaws.{judged_good, judged_bad}
use Rattle.reader.proofs.frame.judge.Goals as goal

pub loop-read-preserved : goal.loop-read-preserved
loop-read-preserved c =
    let i = c.loop-read.invariant in
    let g = gave_item (rw (i.0, c.in_ok-read.was) at c.in-Some.ensures.steps.1) in
    (c.in-Some.ensures.steps.0 ∙ i.0, i.1 ∙ walk_item _ _ g.inside g.read ∙ ap (walk_of c.args.frame.now) (sym g.on))

pub returns-in_err-read : goal.returns-in_err-read
returns-in_err-read c =
    let i = c.loop-read.invariant in
    let g = gave_refusal (rw (i.0, c.in_err-read.was) at c.in-Some.ensures.steps.1) in
    let p = err_from_is_err_and c.from_residual-in_err-read.result c.from_residual-in_err-read.ensures.1 in
    rw (p.1, p.2) (sym (judged_bad _ (sym c.in_ok-header.ensures) (i.1 ∙ walk_bad _ _ g.inside g.read)))

pub returns : goal.returns
returns c =
    let i = c.loop-read.invariant in
    let g = gave_none (rw i.0 at c.in-None.ensures.steps.1) in
    sym (judged_good _ (sym c.in_ok-header.ensures) (i.1 ∙ walk_end _ _ g))
