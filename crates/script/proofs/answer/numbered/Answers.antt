use Rattle.std.proofs.Common.{arith}
use Rattle.text.proofs.DraftLaws.{draft_wrote}
use Rattle.script.proofs.AnswerLaws.{numbered_length}
use Rattle.script.proofs.answer.numbered.Goals as goal

pub returns : goal.returns
returns c = draft_wrote c.new-draft.ensures c.lay_numbered.ensures (omega (arith, numbered_length c.args.answer c.args.v)) c.put.ensures
