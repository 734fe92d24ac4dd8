use Rattle.std.proofs.Common.{◌∙◌, arith}
use Rattle.codec.proofs.Stands.{bytes_of}
use Rattle.reader.proofs.FrameLaws.{left_item, left_last, not-bad}
use Rattle.reader.proofs.ItemsLaws.{gave_item, gave_refusal, gave_none}
use Rattle.reader.proofs.copy.rewrite_items.Goals as goal

pub returns-in_default : goal.returns-in_default
returns-in_default c =
    let i = c.loop-read.invariant in
    let g = gave_refusal (rw (i.0, c.in_default.is) at c.in-Some.ensures.steps.1) in
    not-bad _ _ i.1.clean g.inside g.read

pub loop-read-preserved : goal.loop-read-preserved
loop-read-preserved c =
    let i = c.loop-read.invariant in
    let g = gave_item (rw (i.0, c.in-Ok.is) at c.in-Some.ensures.steps.1) in
    let b = bytes_of c.args.frame.now (λ i h. omega (arith, c.type_inv.frame i)) in
    let w = rw g.here at c.write_item.ensures in
    (c.in-Some.ensures.steps.0 ∙ i.0, rw g.on (left_item _ i.1 g.inside c.requires.frame_in_bounds b g.read c.part_at-payload.ensures w))

pub returns : goal.returns
returns c =
    let i = c.loop-read.invariant in
    left_last i.1 (gave_none (rw i.0 at c.in-None.ensures.steps.1))
