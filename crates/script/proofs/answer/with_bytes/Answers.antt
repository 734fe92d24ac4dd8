use Rattle.text.specs.Put.{decimal_of}
use Rattle.std.proofs.Common.{ap, ◌∙◌}
use Rattle.text.proofs.DraftLaws.{adds_then, adds_as, adds_all}
use Rattle.script.specs.Answer.{bytes_text}
use Rattle.script.proofs.AnswerLaws.{number_length}
use Rattle.script.proofs.answer.with_bytes.Goals as goal

pub returns : goal.returns
unfolding bytes_text
returns c =
    let e = c.as_slice.ensures ∙ adds_all c.new-draft.ensures (adds_then (adds_as c.decimal.ensures (ap decimal_of c.from.ensures)) c.push.ensures) (number_length _) in
    rw e at c.before_bytes.ensures
