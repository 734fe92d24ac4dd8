use Rattle.listing.proofs.LinesLaws.{wrote_with}
use Rattle.listing.proofs.field.good.Goals as goal

pub returns-in-Note : goal.returns-in-Note
returns-in-Note c = rw c.in-Note.is (wrote_with c.note.ensures c.unwrap_or.ensures)

pub returns-in-Start : goal.returns-in-Start
returns-in-Start c = rw c.in-Start.is (wrote_with c.start.ensures c.unwrap_or-in-Start.ensures)

pub returns-in-Skipped : goal.returns-in-Skipped
returns-in-Skipped c = rw c.in-Skipped.is (wrote_with c.skipped.ensures c.unwrap_or-in-Skipped.ensures)
