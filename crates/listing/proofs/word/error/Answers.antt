use Rattle.text.proofs.DraftLaws.{adds_then}
use Rattle.listing.specs.Line.{error_text}
use Rattle.listing.proofs.word.error.Goals as goal

pub returns : goal.returns
unfolding error_text
returns c = adds_then c.channels.ensures c.push.ensures
