-- What a byte is worth, by the range that it lies in. Assumes nothing.
use Prim.Native.Nat.{ℕ, ◌-◌, ◌≤◌, ◌<◌}
use native.Mathlib.Omega.{arith}
use mathlib.Core.Path.{◌≡◌, refl, sym}
use lib.Dec.{ltb}
use Rattle.std.proofs.lemmas.Bool.Decides.{nat_tests}
use borrow.Author.Tests.{lt-ltb, ltb-true, ltb-false}
use mathlib.Core.Bool.{Bool, true, false}
use mathlib.Core.List.{List, [], ◌∷◌}
use Rattle.std.specs.List.{list_all}
use Rattle.std.specs.Char.{digit_value, is_ascii_hexdigit}
use Rattle.std.specs.Prelude.{Option, Some, None, SomeIff}
use Rattle.text.specs.Digit.{digit_of, hex_digit_of, all_below}

pub from_0 : (c : ℕ) → 48 ≤ c → c ≤ 57 → digit_of c ≡ c - 48
unfolding digit_of
from_0 c h k = grind (arith, nat_tests)

pub from_a : (c : ℕ) → 97 ≤ c → c ≤ 102 → digit_of c ≡ c - 87
unfolding digit_of
from_a c h k = grind (arith, nat_tests)

pub after_f : (c : ℕ) → 102 < c → digit_of c ≡ 16
unfolding digit_of
after_f c h = grind (arith, nat_tests)

-- against the library's words
agree : (c : ℕ) → digit_value c < 16 → digit_of c ≡ digit_value c
unfolding digit_of
agree c h = grind (arith, nat_tests)

past : (c : ℕ) → 16 ≤ digit_value c → digit_of c ≡ 16
unfolding digit_of
past c h = grind (arith, nat_tests)

hexadecimal : (c : ℕ) → is_ascii_hexdigit c ≡ ltb (digit_of c) 16
unfolding digit_of
hexadecimal c = grind (arith, nat_tests)

pub all_hexadecimal : (s : List ℕ) → list_all (λ c. is_ascii_hexdigit c) s ≡ all_below 16 s
all_hexadecimal [] = refl
all_hexadecimal (c ∷ cs) = rw (hexadecimal c, all_hexadecimal cs)

-- the library's digit
pub digit_none : (c : ℕ) {x : ℕ} {r : Option ℕ} → x ≡ c → r ≡ None → SomeIff r (digit_value x < 16) (digit_value x) → None ≡ hex_digit_of c
unfolding hex_digit_of
digit_none c q e h =
    let k : digit_value c < 16 → ⊥ = rw (e, q) at h in
    rw (past c (omega (arith, k)))

pub digit_some : (c d : ℕ) {x : ℕ} {r : Option ℕ} → x ≡ c → r ≡ Some d → SomeIff r (digit_value x < 16) (digit_value x) → Some d ≡ hex_digit_of c
unfolding hex_digit_of
digit_some c d q e h =
    let k : (digit_value c < 16) × (d ≡ digit_value c) = rw (e, q) at h in
    let w = agree c k.0 in
    let z : digit_of c < 16 = omega arith in
    rw (lt-ltb (digit_of c) 16 z, w, ← k.1)

-- what a digit says
pub worth : (c d : ℕ) → hex_digit_of c ≡ Some d → (d ≡ digit_of c) × (d < 16)
unfolding hex_digit_of
worth c d h = go (ltb (digit_of c) 16) refl
  where
    go : (t : Bool) → ltb (digit_of c) 16 ≡ t → (d ≡ digit_of c) × (d < 16)
    go true e = let q : digit_of c ≡ d = cc in let m = ltb-true (digit_of c) 16 e in (sym q, omega arith)
    go false e = let z : None ≡ Some d = rw e at h in absurd (cc)

pub no_worth : (c : ℕ) → hex_digit_of c ≡ None → 16 ≤ digit_of c
unfolding hex_digit_of
no_worth c h = go (ltb (digit_of c) 16) refl
  where
    go : (t : Bool) → ltb (digit_of c) 16 ≡ t → 16 ≤ digit_of c
    go true e = let z : Some (digit_of c) ≡ None = rw e at h in absurd (cc)
    go false e = ltb-false (digit_of c) 16 e

-- every digit of a word that is bytes is worth something
pub has_worth : (c : ℕ) → digit_of c < 16 → hex_digit_of c ≡ Some (digit_of c)
unfolding hex_digit_of
has_worth c h = rw (lt-ltb (digit_of c) 16 h)
