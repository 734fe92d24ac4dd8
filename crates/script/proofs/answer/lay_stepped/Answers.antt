use Rattle.std.proofs.Common.{rules}
use Rattle.text.proofs.DraftLaws.{adds_then, adds_as}
use Rattle.script.proofs.answer.lay_stepped.Goals as goal

pub returns-in-Ok-Some : goal.returns-in-Ok-Some
returns-in-Ok-Some c = adds_as (adds_then c.placed.ensures c.item.ensures) (rw c.in-Ok-Some.is (search rules))

pub returns-in-Err : goal.returns-in-Err
returns-in-Err c = adds_as (adds_then c.decimal.ensures c.push-in-Err.ensures) (rw (c.from-in-Err.ensures, c.from.ensures, c.in-Err.is))
