use Rattle.std.proofs.Common.{arith}
use Rattle.text.proofs.DraftLaws.{adds_then, draft_wrote}
use Rattle.listing.specs.Line.{frame_line}
use Rattle.listing.proofs.RoomLaws.{frame_most}
use Rattle.listing.proofs.line.frame.Goals as goal

pub returns : goal.returns
unfolding frame_line
returns c =
    draft_wrote c.new-line.ensures (adds_then (adds_then (adds_then (adds_then c.push.ensures c.field.ensures) c.time.ensures) c.field-2.ensures) c.push-2.ensures)
    (omega (arith, frame_most c.args.h)) c.put.ensures
