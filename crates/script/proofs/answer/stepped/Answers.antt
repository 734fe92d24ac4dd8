use Rattle.text.proofs.DraftLaws.{draft_wrote}
use Rattle.script.proofs.AnswerLaws.{stepped_length}
use Rattle.script.proofs.answer.stepped.Goals as goal

pub returns : goal.returns
returns c = draft_wrote c.new-draft.ensures c.lay_stepped.ensures (stepped_length _) c.put.ensures
