use Rattle.std.proofs.Common.{◌∙◌, sym}
use Rattle.recording.proofs.PlaceLaws.{kept_by_lem}
use Rattle.recording.proofs.pieces.Place.keep.Goals as goal

pub returns-then-kept : goal.returns-then-kept
returns-then-kept c =
    kept_by_lem _ _ _ (rw (← c.length.ensures) (sym c.kept.ensures ∙ c.if-kept.true)) (rw (c.saturating_sub.ensures, c.part.ensures) at c.put_bytes.ensures)
