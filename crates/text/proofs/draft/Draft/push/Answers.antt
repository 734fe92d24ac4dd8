use Rattle.std.proofs.Common.{arith}
use Rattle.text.proofs.DraftLaws.{pushed_whole}
use Rattle.text.proofs.draft.Draft.push.Goals as goal

pub returns : goal.returns
returns g c = pushed_whole g.row.N c.self.inside.bytes c.self.inside.len c.args.s.now (omega arith) c.self.invariant c.self.view_is (omega arith) c.put_bytes.ensures
