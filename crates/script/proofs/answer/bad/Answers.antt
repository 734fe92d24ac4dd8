use Rattle.std.proofs.Common.{refl}
use Rattle.text.proofs.DraftLaws.{adds_then, adds_as, draft_wrote}
use Rattle.script.specs.Answer.{bad_text}
use Rattle.script.proofs.AnswerLaws.{bad_length}
use Rattle.script.proofs.answer.bad.Goals as goal

pub returns : goal.returns
unfolding bad_text
returns c = draft_wrote c.new-draft.ensures (adds_as (adds_then c.push.ensures c.field.ensures) refl) (bad_length c.args.line) c.put.ensures
