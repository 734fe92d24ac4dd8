use Rattle.text.proofs.DraftLaws.{rowing_adds}
use Rattle.text.proofs.draft.Draft.add_row.Goals as goal

pub returns : goal.returns
returns g c = rowing_adds c.args.name.now c.loop-v.invariant c.loop-v-test.false c.push-2.ensures
