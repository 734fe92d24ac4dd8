use Rattle.std.proofs.Common.{◌++◌}
use Rattle.text.proofs.DraftLaws.{Rowing}
use Rattle.text.proofs.draft.Draft.add_row.Given as goal

abbrev pub invariant-loop-v : goal.invariant-loop-v
invariant-loop-v g l = Rowing g.row.N (l.fn.self ++ l.name) l.vs l.self l.v-index
