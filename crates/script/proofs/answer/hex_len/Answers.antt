use Rattle.std.proofs.Common.{rules}
use Rattle.script.proofs.AnswerLaws.{hex_some}
use Rattle.script.proofs.answer.hex_len.Goals as goal

pub returns-else-is_empty : goal.returns-else-is_empty
returns-else-is_empty c = hex_some c.args.part.now (search rules)
