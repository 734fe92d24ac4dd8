use Rattle.std.proofs.Common.{◌≡◌}
use Rattle.listing.proofs.LinesLaws.{Left}
use Rattle.listing.proofs.field.items.Given as goal

abbrev pub invariant-loop-read : goal.invariant-loop-read
invariant-loop-read l =
    (l.read-iterator.frame.now ≡ l.frame) × Left l.start l.header l.frame l.fn.out l.from l.out l.at l.read-iterator.place
