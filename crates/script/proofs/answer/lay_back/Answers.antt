use Rattle.std.proofs.Common.{ap}
use Rattle.text.proofs.DraftLaws.{adds_then, adds_as}
use Rattle.text.specs.Put.{decimal_of}
use Rattle.script.specs.Answer.{back_text}
use Rattle.script.proofs.answer.lay_back.Goals as goal

pub returns : goal.returns
unfolding back_text
returns c = adds_then (adds_then (adds_as c.decimal.ensures (ap decimal_of c.from.ensures)) c.push.ensures) c.field.ensures
