use Rattle.std.proofs.Common.{arith}
use Rattle.text.proofs.DraftLaws.{pushed}
use Rattle.text.proofs.draft.Draft.cut.Goals as goal

pub returns : goal.returns
returns g c = pushed g.row.N c.self.inside.bytes c.self.inside.len c.args.s.now (omega arith) c.self.invariant c.self.view_is c.front-part.ensures c.put_bytes.ensures
