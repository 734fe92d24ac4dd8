use Rattle.text.proofs.DraftLaws.{adds_then, adds_as}
use Rattle.listing.specs.Line.{time_text}
use Rattle.listing.proofs.word.time.Goals as goal

pub returns : goal.returns
unfolding time_text
returns c = adds_then (adds_then c.field.ensures c.push.ensures) (adds_as c.push-2.ensures c.fixed.ensures)
