use borrow.Author.Tests.{ne_eqb}
use Rattle.text.proofs.DraftLaws.{draft_wrote}
use Rattle.script.specs.Answer.{timed_text}
use Rattle.script.proofs.AnswerLaws.{back_length}
use Rattle.script.proofs.answer.timed.Goals as goal

pub returns : goal.returns
unfolding timed_text
returns c =
    rw (ne_eqb c.args.back.0 0 c.if-back-eq0.false) (draft_wrote c.new-draft.ensures c.lay_back.ensures (back_length _ _) c.put.ensures)
