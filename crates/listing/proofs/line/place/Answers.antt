use Rattle.text.proofs.DraftLaws.{adds_then}
use Rattle.listing.specs.Line.{place_text}
use Rattle.listing.proofs.line.place.Goals as goal

pub returns : goal.returns
unfolding place_text
returns c = adds_then (adds_then (adds_then (adds_then c.push.ensures c.time.ensures) c.position.ensures) c.bus.ensures) c.field.ensures
