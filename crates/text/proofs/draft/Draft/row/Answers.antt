use Rattle.text.proofs.DraftLaws.{adds_first}
use Rattle.text.proofs.draft.Draft.row.Goals as goal

pub returns : goal.returns
returns g c = adds_first c.new-line.ensures c.add_row.ensures
