use Rattle.std.proofs.Common.{rules}
use Rattle.text.proofs.DraftLaws.{adds_then, adds_as}
use Rattle.listing.specs.Line.{channels_text}
use Rattle.listing.proofs.word.channels.Goals as goal

pub returns : goal.returns
unfolding channels_text
returns c = adds_as (adds_then (adds_then c.push.ensures c.push-2.ensures) c.push-3.ensures) (rw (c.only_if.ensures, c.only_if-2.ensures) (search rules))
