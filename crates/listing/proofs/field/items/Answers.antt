use Rattle.std.proofs.Common.{◌∙◌}
use Rattle.reader.proofs.ItemsLaws.{gave_item, gave_refusal, gave_none}
use Rattle.listing.proofs.LinesLaws.{left_item, left_bad, left_last}
use Rattle.listing.proofs.field.items.Goals as goal

pub returns-in_default : goal.returns-in_default
returns-in_default c =
    let i = c.loop-read.invariant in
    let g = gave_refusal (rw (i.0, c.in_default.is) at c.in-Some.ensures.steps.1) in
    left_bad i.1 g.inside g.read

pub loop-read-preserved : goal.loop-read-preserved
loop-read-preserved c =
    let i = c.loop-read.invariant in
    let g = gave_item (rw (i.0, c.in-Ok.is) at c.in-Some.ensures.steps.1) in
    (c.in-Some.ensures.steps.0 ∙ i.0, rw g.on (left_item i.1 g.inside g.read c.recovered-time.ensures c.part_at-payload.ensures c.item.ensures c.unwrap_or-at.ensures c.item.auto.out))

pub returns : goal.returns
returns c =
    let i = c.loop-read.invariant in
    left_last i.1 (gave_none (rw i.0 at c.in-None.ensures.steps.1))
