use Rattle.text.proofs.DraftLaws.{adds_then}
use Rattle.listing.specs.Line.{flexray_text}
use Rattle.listing.proofs.word.flexray.Goals as goal

pub returns : goal.returns
unfolding flexray_text
returns c = adds_then (adds_then (adds_then (adds_then c.channels.ensures c.push.ensures) c.decimal.ensures) c.push-2.ensures) c.decimal-2.ensures
