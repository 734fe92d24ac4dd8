-- Laws of joined tests, and of answers.
use Prim.Native.Nat.{ℕ, suc}
use mathlib.Core.Path.{◌≡◌, refl}
use mathlib.Core.Logic.{◌⊎◌, inl, inr}
use mathlib.Core.Bool.{Bool, true, false, not, ◌&&◌, ◌||◌, true≢false, false≢true}
use native.Mathlib.Omega.{arith}
use lib.Dec.{ltb, leb}
use borrow.Author.Tests.{ltb-true, ltb-false, le-leb, lt-leb}
use Rattle.codec.proofs.BoolLaws.{and_l, and_r}

-- no answer but 0 is 0
pub wrong : {G : Type 0} (n : ℕ) → suc n ≡ 0 → G
wrong n e = let z : ⊥ = omega arith in absurd z

-- all of the tests hold
pub and_yes : (a b : Bool) → not a && b ≡ true → (a ≡ false) × (b ≡ true)
and_yes true b e = absurd (false≢true e)
and_yes false b e = (refl, e)

pub and3_yes : (a b d : Bool) → a && b && d ≡ true → (a ≡ true) × (b ≡ true) × (d ≡ true)
and3_yes a b d e = let h = and_l (a && b) d e in (and_l a b h, and_r a b h, and_r (a && b) d e)

-- none of them does, or one
pub or3_no : (a b d : Bool) → a || b || d ≡ false → (a ≡ false) × (b ≡ false) × (d ≡ false)
or3_no true b d e = absurd (true≢false e)
or3_no false true d e = absurd (true≢false e)
or3_no false false d e = (refl, refl, e)

pub or3_yes : {X Y Z : Type 0} (a b d : Bool) → (a ≡ true → X) → (b ≡ true → Y) → (d ≡ true → Z) → a || b || d ≡ true → X ⊎ (Y ⊎ Z)
or3_yes true b d x y z e = inl (x refl)
or3_yes false true d x y z e = inr (inl (y refl))
or3_yes false false d x y z e = inr (inr (z e))

-- a test and its opposite
pub not-leb : (a b : ℕ) → not (leb a b) ≡ ltb b a
not-leb a b = go (ltb b a) refl
  where
    go : (x : Bool) → ltb b a ≡ x → not (leb a b) ≡ ltb b a
    go true e = rw (e, lt-leb a b (ltb-true b a e))
    go false e = rw (e, le-leb a b (ltb-false b a e))
