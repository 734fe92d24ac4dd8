use Rattle.listing.proofs.LinesLaws.{wrote_with}
use Rattle.listing.proofs.field.laid.Goals as goal

pub returns-in-Err : goal.returns-in-Err
returns-in-Err c = rw (c.in-Err.is, ← c.from.ensures) (wrote_with c.refused.ensures c.unwrap_or.ensures)
