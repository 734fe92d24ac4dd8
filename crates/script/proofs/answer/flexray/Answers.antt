use Rattle.std.proofs.Common.{ap}
use Rattle.text.proofs.DraftLaws.{adds_then, adds_as}
use Rattle.text.specs.Put.{decimal_of}
use Rattle.text.specs.Draft.{field_text}
use Rattle.script.specs.Answer.{flexray_text}
use Rattle.script.proofs.answer.flexray.Goals as goal

pub returns : goal.returns
unfolding flexray_text
returns c = adds_then (adds_then (adds_then (adds_then (adds_as c.field.ensures (ap field_text c.from.ensures)) c.push.ensures) (adds_as c.decimal.ensures (ap decimal_of c.from-2.ensures))) c.push-2.ensures) (adds_as c.decimal-2.ensures (ap decimal_of c.from-3.ensures))
