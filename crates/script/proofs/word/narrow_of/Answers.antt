use Rattle.std.proofs.Common.{sym, ◌∙◌, arith}
use Rattle.script.proofs.WordLaws.{number-most}
use Rattle.script.proofs.word.narrow_of.Goals as goal

pub overflow_cast-result : goal.overflow_cast-result
overflow_cast-result c = omega (arith, number-most c.args.word.now c.from.result _ (sym c.read.ensures ∙ c.in_ok-v.was))
