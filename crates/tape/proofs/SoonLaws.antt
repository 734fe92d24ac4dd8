-- Two positions that are told for times less than a sample apart. Assumes nothing.
use Prim.Native.Nat.{◌+◌, ◌≤◌}
use mathlib.Core.Path.{◌≡◌}
use lib.IntN.{ℤ}
use Rattle.std.specs.Prelude.{Ok}
use Rattle.codec.specs.Time.{ns}
use Rattle.codec.specs.declared.time.Time.{Time}
use Rattle.tape.specs.Sample.{SameOrNext, position_of}
use Rattle.tape.proofs.PlaceLaws.{tells, soon}

-- they lie on the same sample or on the next, as the times do
pub positions_soon : (start t r : Time) → ns t ≤ ns r → ns r ≤ ns t + 20833 → (p q : ℤ)
    → position_of start t ≡ Ok p → position_of start r ≡ Ok q → SameOrNext p q
positions_soon start t r h k p q x y =
    rw ((tells start t p x).0, (tells start r q y).0) (soon (ns start) (ns t) (ns r) h k)
