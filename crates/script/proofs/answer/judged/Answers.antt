use Rattle.text.proofs.DraftLaws.{draft_wrote}
use Rattle.script.proofs.AnswerLaws.{judged_length}
use Rattle.script.proofs.answer.judged.Goals as goal

pub returns : goal.returns
returns c = draft_wrote c.new-draft.ensures c.lay_judged.ensures (judged_length _) c.put.ensures
