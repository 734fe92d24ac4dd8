use Rattle.std.proofs.Common.{arith}
use Rattle.text.proofs.DraftLaws.{adds_then, draft_wrote}
use Rattle.listing.specs.Line.{start_line}
use Rattle.listing.proofs.RoomLaws.{start_most}
use Rattle.listing.proofs.line.start.Goals as goal

pub returns : goal.returns
unfolding start_line
returns c = draft_wrote c.new-line.ensures (adds_then (adds_then c.push.ensures c.time.ensures) c.push-2.ensures) (omega (arith, start_most c.args.t)) c.put.ensures
