use Rattle.std.proofs.Common.{ap}
use Rattle.text.proofs.DraftLaws.{adds_then, adds_as}
use Rattle.text.specs.Draft.{field_text}
use Rattle.script.specs.Answer.{time_text}
use Rattle.script.proofs.answer.time.Goals as goal

pub returns : goal.returns
unfolding time_text
returns c = adds_then c.field.ensures (adds_as c.field-2.ensures (ap field_text c.from.ensures))
