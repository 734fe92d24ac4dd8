use Rattle.recording.proofs.PlaceLaws.{part_is}
use Rattle.recording.proofs.pieces.Place.part.Goals as goal

pub returns : goal.returns
returns c = part_is _ _ c.used-n.ensures (rw c.saturating_sub-head.ensures at c.min.ensures)
