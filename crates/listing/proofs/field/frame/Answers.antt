use Rattle.listing.specs.Field.{item_lines}
use Rattle.listing.proofs.LinesLaws.{then_all}
use Rattle.listing.proofs.field.frame.Goals as goal

pub returns : goal.returns
returns c = then_all (item_lines c.args.start c.args.header.time c.args.body.now 14) c.frame.ensures c.unwrap_or-first.ensures c.items.ensures
