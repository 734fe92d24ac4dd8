use Rattle.std.proofs.Common.{rules}
use Rattle.text.proofs.DraftLaws.{adds_then, adds_as}
use Rattle.listing.specs.Line.{signed_text}
use Rattle.listing.proofs.word.signed.Goals as goal

pub returns : goal.returns
unfolding signed_text
returns c = adds_as (adds_then c.sign.ensures c.decimal.ensures) (rw c.unsigned_abs.ensures.value (search rules))
