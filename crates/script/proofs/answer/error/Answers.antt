use Rattle.std.proofs.Common.{ap}
use Rattle.text.proofs.DraftLaws.{adds_then, adds_as}
use Rattle.text.specs.Draft.{field_text}
use Rattle.script.specs.Answer.{error_text}
use Rattle.script.proofs.answer.error.Goals as goal

pub returns : goal.returns
unfolding error_text
returns c = adds_then (adds_as c.field.ensures (ap field_text c.from.ensures)) c.push.ensures
