use Rattle.text.proofs.DraftLaws.{adds_then}
use Rattle.script.specs.Answer.{placed_text}
use Rattle.script.proofs.answer.placed.Goals as goal

pub returns : goal.returns
unfolding placed_text
returns c = adds_then (adds_then c.push.ensures c.field.ensures) c.time.ensures
