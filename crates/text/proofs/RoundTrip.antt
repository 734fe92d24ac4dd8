-- What is written is read back: the bytes of hexadecimal text, and the number of decimal text. Assumes nothing.
use Prim.Native.Nat.{ℕ, zero, suc, ◌+◌, ◌*◌, ◌/◌, ◌%◌, ◌^◌, ◌≤◌, ◌<◌}
use mathlib.Core.Path.{◌≡◌, refl, ◌∙◌}
use mathlib.Core.Bool.{Bool, true, false, ◌&&◌, ◌||◌}
use mathlib.Core.List.{List, [], ◌∷◌, ◌++◌}
use native.Mathlib.Omega.{arith}
use native.Mathlib.Nat.{pow-suc}
use lib.ListN.{length, length-append}
use lib.Dec.{ltb, leb, eqb}
use borrow.Author.Tests.{lt-ltb, le-leb, ltb-true, ltb-false, eq-eqb, ne_eqb}
use Rattle.codec.specs.Number.{Bytes}
use Rattle.text.specs.Digit.{digit_of, all_below}
use Rattle.text.specs.Number.{value, rest_of, digits_of, hexed, number_of}
use Rattle.text.specs.Put.{letter_of, hexes, hex_of, decimals, decimal_of}
use Rattle.text.specs.Line.{same_of}
use Rattle.text.specs.Bytes.{pairs, spells}
use Rattle.std.specs.Prelude.{Some}
use Rattle.codec.proofs.BoolLaws.{and_false, and_l, and_r}
use Rattle.text.proofs.DigitLaws.{from_0, from_a, after_f}
use Rattle.text.proofs.PutLaws.{hexes-length}

-- a digit that was written is worth what it was written for
letter_back : (d : ℕ) → d < 16 → digit_of (letter_of d) ≡ d
unfolding letter_of
letter_back d h = go (ltb d 10) refl
  where
    go : (t : Bool) → ltb d 10 ≡ t → digit_of (letter_of d) ≡ d
    go true e =
        let k : d < 10 = ltb-true d 10 e in
        rw e (from_0 (d + 48) (omega arith) (omega arith) ∙ omega arith)
    go false e =
        let k : 10 ≤ d = ltb-false d 10 e in
        rw e (from_a (d + 87) (omega arith) (omega arith) ∙ omega arith)

pub pairs_back : (bs : List ℕ) → Bytes bs → pairs (hexes bs) ≡ bs
pairs_back [] h = refl
pairs_back (b ∷ bs) h =
    let k : b < 256 = h.0 in
    let e : b / 16 * 16 + b % 16 ≡ b = omega arith in
    rw (letter_back (b / 16) (omega arith), letter_back (b % 16) (omega arith), e, pairs_back bs h.1)

hexes_digits : (bs : List ℕ) → Bytes bs → all_below 16 (hexes bs) ≡ true
hexes_digits [] h = refl
hexes_digits (b ∷ bs) h =
    let k : b < 256 = h.0 in
    rw (letter_back (b / 16) (omega arith), letter_back (b % 16) (omega arith), lt-ltb (b / 16) 16 (omega arith), lt-ltb (b % 16) 16 (omega arith))
    (hexes_digits bs h.1)

-- hexadecimal text is bytes, and those that were written
pub hex_back : (bs : List ℕ) → Bytes bs → (spells (hex_of bs) ≡ true) × (pairs (hex_of bs) ≡ bs)
unfolding spells
hex_back [] h = (refl, refl)
hex_back (b ∷ bs) h = (go (same_of (hexes (b ∷ bs)) (45 ∷ [])), pairs_back (b ∷ bs) h)
  where
    n : length (hexes (b ∷ bs)) ≡ 2 * length (b ∷ bs)
    n = hexes-length (b ∷ bs)

    go : (t : Bool) → t || (ltb 0 (length (hexes (b ∷ bs))) && eqb (length (hexes (b ∷ bs)) % 2) 0 && all_below 16 (hexes (b ∷ bs))) ≡ true
    go true = refl
    go false =
        rw (lt-ltb 0 (length (hexes (b ∷ bs))) (omega arith), eq-eqb (length (hexes (b ∷ bs)) % 2) 0 (omega (arith, n)), hexes_digits (b ∷ bs) h)

-- one more digit at the end
value_snoc : (base a : ℕ) (xs : List ℕ) (c : ℕ) → value base a (xs ++ (c ∷ [])) ≡ value base a xs * base + digit_of c
value_snoc base a [] c = refl
value_snoc base a (x ∷ xs) c = value_snoc base (a * base + digit_of x) xs c

below_snoc : (base : ℕ) (xs : List ℕ) (c : ℕ) → all_below base xs ≡ true → digit_of c < base → all_below base (xs ++ (c ∷ [])) ≡ true
below_snoc base [] c e h = rw (lt-ltb (digit_of c) base h)
below_snoc base (x ∷ xs) c e h =
    rw (and_l (ltb (digit_of x) base) (all_below base xs) e) (below_snoc base xs c (and_r (ltb (digit_of x) base) (all_below base xs) e) h)

digit_back : (d : ℕ) → d < 10 → digit_of (d + 48) ≡ d
digit_back d h = from_0 (d + 48) (omega arith) (omega arith) ∙ omega arith

-- decimal text is digits, and they are worth the number
pub record Worth (cs : List ℕ) (v : ℕ) : Type 0 where
  pub digits : all_below 10 cs ≡ true
  pub worth : value 10 0 cs ≡ v

decimals_worth : (n v : ℕ) → v < 10 ^ n → Worth (decimals n v) v
unfolding decimals
decimals_worth zero v h = record { digits = refl; worth = omega arith }
decimals_worth (suc n) v h = go (ltb v 10) refl (λ k. decimals_worth n (v / 10) k)
  where
    go : (t : Bool) → ltb v 10 ≡ t → (v / 10 < 10 ^ n → Worth (decimals n (v / 10)) (v / 10)) → Worth (decimals (suc n) v) v
    go true e r =
        let k : v < 10 = ltb-true v 10 e in
        let d = digit_back v k in
        rw e record { digits = rw (lt-ltb (digit_of (v + 48)) 10 (omega arith)); worth = omega arith }
    go false e r =
        let w = r (omega (arith, pow-suc 10 n)) in
        let d = digit_back (v % 10) (omega arith) in
        let s = value_snoc 10 0 (decimals n (v / 10)) (v % 10 + 48) in
        rw e record { digits = below_snoc 10 (decimals n (v / 10)) (v % 10 + 48) w.digits (omega arith); worth = omega (arith, w.worth) }

decimals_some : (n v : ℕ) → 0 < length (decimals (suc n) v)
unfolding decimals
decimals_some n v = go (ltb v 10) refl
  where
    go : (t : Bool) → ltb v 10 ≡ t → 0 < length (decimals (suc n) v)
    go true e = rw e (omega arith)
    go false e = rw e (omega (arith, length-append (decimals n (v / 10)) ((v % 10 + 48) ∷ [])))

-- decimal digits do not start "0x"
not-hexed : (cs : List ℕ) → all_below 10 cs ≡ true → hexed cs ≡ false
unfolding hexed
not-hexed [] e = refl
not-hexed (a ∷ []) e = refl
not-hexed (a ∷ b ∷ cs) e =
    let k = ltb-true (digit_of b) 10 (and_l (ltb (digit_of b) 10) (all_below 10 cs) (and_r (ltb (digit_of a) 10) (all_below 10 (b ∷ cs)) e)) in
    rw (ne_eqb b 120 (λ q. x-is-none b q k)) (and_false (leb 2 (length (a ∷ b ∷ cs)) && eqb a 48))
  where
    x-is-none : (c : ℕ) → c ≡ 120 → digit_of c < 10 → ⊥
    x-is-none c q k = omega (arith, after_f c (omega arith))

-- a number of 64 bits is read back from its decimal text
pub decimal_back : (v most : ℕ) → v ≤ most → most < 2 ^ 64 → number_of (decimal_of v) most ≡ Some v
unfolding number_of digits_of rest_of decimal_of
decimal_back v most h k =
    let w = decimals_worth 20 v (omega arith) in
    let s = decimals_some 19 v in
    rw (not-hexed (decimals 20 v) w.digits, ne_eqb (length (decimals 20 v)) 0 (λ z. omega arith), w.digits, w.worth, le-leb v most h)
