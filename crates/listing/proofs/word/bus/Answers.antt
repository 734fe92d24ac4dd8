use Rattle.text.proofs.DraftLaws.{adds_then, adds_as}
use Rattle.listing.specs.Line.{bus_text}
use Rattle.listing.proofs.word.bus.Goals as goal

pub returns : goal.returns
unfolding bus_text
returns c = adds_as (adds_then c.kind.ensures c.push.ensures) (rw (c.kind_of.ensures, c.only_if.ensures, c.is_fd.ensures))
