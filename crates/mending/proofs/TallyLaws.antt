-- Laws of the counts. Assumes nothing.
use Prim.Native.Nat.{ℕ}
use mathlib.Core.Path.{◌≡◌}
use Rattle.mending.specs.declared.check.Tally.{Tally}

pub tally_as : {a a' b b' : ℕ} → a ≡ a' → b ≡ b' → ◌≡◌ {A = Tally} (record { good = a; bad = b }) (record { good = a'; bad = b' })
tally_as x y = rw (x, y)
