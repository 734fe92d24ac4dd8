use Rattle.text.proofs.DraftLaws.{adds_then, adds_as}
use Rattle.listing.specs.Line.{hex_text}
use Rattle.listing.proofs.word.hex.Goals as goal

pub returns : goal.returns
unfolding hex_text
returns g c = adds_then c.push.ensures (adds_as c.push-2.ensures c.fixed.ensures)
