use Rattle.std.proofs.Common.{arith}
use Rattle.text.proofs.DraftLaws.{adds_as}
use Rattle.text.proofs.PutLaws.{decimal_digit}
use Rattle.text.proofs.draft.Draft.decimal.Goals as goal

pub returns-then-v-lt10 : goal.returns-then-v-lt10
returns-then-v-lt10 g c = adds_as c.push.ensures (decimal_digit c.args.v c.if-v-lt10.true)
