use Rattle.text.proofs.DraftLaws.{adds_then}
use Rattle.listing.specs.Line.{shown_text}
use Rattle.listing.proofs.line.shown.Goals as goal

pub returns : goal.returns
unfolding shown_text
returns c = adds_then (adds_then (adds_then c.ident.ensures c.state.ensures) c.load.ensures) c.push.ensures
