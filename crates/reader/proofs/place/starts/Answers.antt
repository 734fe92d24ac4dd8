use Rattle.std.proofs.Common.{◌∙◌, sym, ap}
use Rattle.reader.specs.Frame.{starts_of}
use Rattle.reader.proofs.AlongLaws.{starts_end, starts_here, starts_there, starts-bad}
use Rattle.reader.proofs.ItemsLaws.{gave_item, gave_refusal, gave_none}
use Rattle.reader.proofs.place.starts.Goals as goal

pub returns-in_default : goal.returns-in_default
returns-in_default c =
    let i = c.loop-read.invariant in
    let g = gave_refusal (rw (i.0, c.in_default.is) at c.in-Some.ensures.steps.1) in
    sym (i.1 ∙ starts-bad _ _ _ g.inside g.read)

pub returns-then-here-place : goal.returns-then-here-place
returns-then-here-place c =
    let i = c.loop-read.invariant in
    let g = gave_item (rw (i.0, c.in-Ok.is) at c.in-Some.ensures.steps.1) in
    sym (i.1 ∙ starts_here _ _ _ g.inside (sym g.here ∙ c.if-here-place.true) g.read)

pub loop-read-preserved : goal.loop-read-preserved
loop-read-preserved c =
    let i = c.loop-read.invariant in
    let g = gave_item (rw (i.0, c.in-Ok.is) at c.in-Some.ensures.steps.1) in (
      c.in-Some.ensures.steps.0 ∙ i.0,
      i.1 ∙ starts_there _ _ _ g.inside (λ z. c.if-here-place.false (g.here ∙ z)) g.read ∙ ap (starts_of c.args.frame.now c.args.place) (sym g.on),
    )

pub returns : goal.returns
returns c =
    let i = c.loop-read.invariant in
    sym (i.1 ∙ starts_end _ _ _ (gave_none (rw i.0 at c.in-None.ensures.steps.1)))
