use Rattle.std.proofs.Common.{sym, ◌∙◌, length, arith, length-append}
use borrow.Author.Tests.{eqb-true, eqb-false}
use Rattle.text.proofs.DraftLaws.{adds_then, adds_all, draft_wrote}
use Rattle.listing.proofs.ItemLaws.{item_bare, item_loaded}
use Rattle.listing.proofs.RoomLaws.{front_most}
use Rattle.listing.proofs.line.item.Goals as goal

pub returns-then-is_empty : goal.returns-then-is_empty
returns-then-is_empty c =
    let a = c.args in
    let n = length a.payload.now in
    rw (item_bare a.start a.time a.it a.payload.now _ c.only_if-bytes.ensures (eqb-true _ 0 (sym c.is_empty.ensures ∙ c.if-is_empty.true)))
    (draft_wrote c.new-line.ensures (adds_then c.front.ensures c.push.ensures) (simp length-append (omega (arith, front_most a.start a.time a.it n))) c.put.ensures)

pub returns : goal.returns
returns c =
    let a = c.args in
    let n = length a.payload.now in
    rw (
      item_loaded a.start a.time a.it a.payload.now _ c.only_if-bytes.ensures (eqb-false _ 0 (sym c.is_empty.ensures ∙ c.if-is_empty.false)),
      ← adds_all c.new-line.ensures c.front.ensures (omega (arith, front_most a.start a.time a.it n)),
      ← c.as_slice.ensures,
    ) c.with_bytes.ensures
