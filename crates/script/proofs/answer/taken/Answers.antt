use Rattle.std.proofs.Common.{◌∙◌}
use Rattle.text.proofs.DraftLaws.{adds_then, adds_all}
use Rattle.script.specs.Answer.{taken_text}
use Rattle.script.proofs.AnswerLaws.{pair_length}
use Rattle.script.proofs.answer.taken.Goals as goal

pub returns : goal.returns
unfolding taken_text
returns c =
    let e = c.as_slice.ensures ∙ adds_all c.new-draft.ensures (adds_then c.lay_numbered.ensures c.push.ensures) (pair_length _ _) in
    rw e at c.before_bytes.ensures
