use Rattle.text.proofs.DraftLaws.{adds_then}
use Rattle.listing.specs.Line.{front_text}
use Rattle.listing.proofs.line.front.Goals as goal

pub returns : goal.returns
unfolding front_text
returns c = adds_then c.place.ensures c.shown.ensures
