use Rattle.std.proofs.Common.{ap}
use Rattle.text.proofs.DraftLaws.{adds_then, adds_as}
use Rattle.text.specs.Put.{decimal_of}
use Rattle.text.specs.Draft.{field_text}
use Rattle.script.specs.Answer.{judged_text}
use Rattle.script.proofs.answer.lay_judged.Goals as goal

pub returns : goal.returns
unfolding judged_text
returns c =
    adds_as (adds_then (adds_then (adds_then (adds_as c.decimal.ensures (ap decimal_of c.from.ensures)) (adds_as c.field.ensures (ap field_text c.from-2.ensures))) c.time.ensures) (adds_as c.field-2.ensures (ap field_text c.from-3.ensures)))
    (rw (c.judged_number-answer.ensures, c.judged_header-header.ensures))
