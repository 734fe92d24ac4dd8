use Rattle.text.proofs.DraftLaws.{adds_then}
use Rattle.text.specs.Draft.{field_text}
use Rattle.text.proofs.draft.Draft.field.Goals as goal

pub returns : goal.returns
unfolding field_text
returns g c = adds_then c.push.ensures c.decimal.ensures
