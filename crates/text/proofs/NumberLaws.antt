-- Laws of numbers: what reading them keeps, and what it has shown at its end. Assumes nothing.
use Prim.Native.Nat.{ℕ, zero, suc, ◌+◌, ◌*◌, ◌^◌, ◌≤◌, ◌<◌}
use mathlib.Core.Path.{◌≡◌, refl, sym, ◌∙◌, ap}
use mathlib.Core.Bool.{Bool, true, false, ◌&&◌}
use mathlib.Core.List.{List, [], ◌∷◌}
use native.Mathlib.Nat.{le-mul_of_pos_right}
use native.Mathlib.Numerals.{add-one}
use native.Mathlib.Omega.{arith}
use lib.ListN.{length, get_or, take, drop, drop_of_length-le}
use lib.Seq.{drop-cons}
use lib.Dec.{leb, eqb}
use borrow.Author.Tests.{le-leb, lt-leb, leb-true, leb-false, lt-ltb, le-ltb, eq-eqb, ne_eqb}
use Rattle.codec.proofs.BoolLaws.{and_false}
use Rattle.std.specs.Prelude.{nat_eq}
use Rattle.std.specs.Cmp.Lexicographic.{pointwise}
use Rattle.text.specs.Digit.{digit_of, hex_digit_of, all_below}
use Rattle.text.proofs.DigitLaws.{worth, no_worth}
use Rattle.text.specs.Number.{value, grown_of, rest_of, digits_of, hexed, number_of}
use Rattle.std.specs.Prelude.{Option, Some, None}

-- grown: a number that does not fit 64 bits is past every limit of 64 bits
module _ (base most v d : ℕ) (small : most < 2 ^ 64) where
  pub mul_over : {r : Option ℕ} → r ≡ None → (v * base < 2 ^ 64 → ⊥) → r ≡ grown_of base most v d
  unfolding grown_of
  mul_over e h = e ∙ rw (lt-leb (v * base + d) most (omega (arith, h)))

  pub add_over : {m : ℕ} {r : Option ℕ} → m ≡ v * base → r ≡ None → (m + d < 2 ^ 64 → ⊥) → r ≡ grown_of base most v d
  unfolding grown_of
  add_over q e h = e ∙ rw (lt-leb (v * base + d) most (omega (arith, h)))

module _ (base most v d : ℕ) where
  pub grown_past : (n : ℕ) → n ≡ v * base + d → most < n → None ≡ grown_of base most v d
  unfolding grown_of
  grown_past n e h = rw (lt-leb (v * base + d) most (omega arith))

  pub grown_is : (n : ℕ) → n ≡ v * base + d → n ≤ most → Some n ≡ grown_of base most v d
  unfolding grown_of
  grown_is n e h = rw (le-leb (v * base + d) most (omega arith), e)

-- what a grown number says
pub grown_fits : (base most v d n : ℕ) → grown_of base most v d ≡ Some n → (n ≡ v * base + d) × (n ≤ most)
unfolding grown_of
grown_fits base most v d n h = go (leb (v * base + d) most) refl
  where
    go : (t : Bool) → leb (v * base + d) most ≡ t → (n ≡ v * base + d) × (n ≤ most)
    go true e = let q : v * base + d ≡ n = cc in let m = leb-true (v * base + d) most e in (sym q, omega arith)
    go false e = let z : ◌≡◌ {A = ℕ} 0 1 = cc in omega arith

pub grown_bad : (base most v d : ℕ) → grown_of base most v d ≡ None → most < v * base + d
unfolding grown_of
grown_bad base most v d h = go (leb (v * base + d) most) refl
  where
    go : (t : Bool) → leb (v * base + d) most ≡ t → most < v * base + d
    go true e = let z : ◌≡◌ {A = ℕ} 0 1 = cc in omega arith
    go false e = leb-false (v * base + d) most e

-- digits never make a number smaller
value_grows : (base a : ℕ) (cs : List ℕ) → 0 < base → a ≤ value base a cs
value_grows base a [] p = omega arith
value_grows base a (c ∷ cs) p =
    let m : a ≤ a * base = le-mul_of_pos_right a p in
    let r = value_grows base (a * base + digit_of c) cs p in
    omega arith

rest_more : (base most v c n : ℕ) (cs : List ℕ) → digit_of c < base → v * base + digit_of c ≡ n → rest_of base most v (c ∷ cs) ≡ rest_of base most n cs
unfolding rest_of
rest_more base most v c n cs b e = rw (lt-ltb (digit_of c) base b) (ap (λ (k : ℕ). rest_of base most k cs) e)

rest_wrong : (base most v c : ℕ) (cs : List ℕ) → base ≤ digit_of c → rest_of base most v (c ∷ cs) ≡ None
unfolding rest_of
rest_wrong base most v c cs b = rw (le-ltb (digit_of c) base b)

rest_over : (base most a : ℕ) (cs : List ℕ) → 0 < base → most < a → rest_of base most a cs ≡ None
unfolding rest_of
rest_over base most a cs p h =
    let g = value_grows base a cs p in
    rw (lt-leb (value base a cs) most (omega arith), and_false (all_below base cs))

-- the first i digits are worth v
pub record Reading (base most : ℕ) (s : List ℕ) (v i : ℕ) : Type 0 where
  pub inside : i ≤ length s
  pub below : v ≤ most
  pub left : rest_of base most 0 s ≡ rest_of base most v (drop i s)

some : (base most : ℕ) (s : List ℕ) → 0 < length s → digits_of base most s ≡ rest_of base most 0 s
unfolding digits_of
some base most s h = rw (ne_eqb (length s) 0 (λ z. omega arith))

module _ {base most : ℕ} {s : List ℕ} {v i : ℕ} (r : Reading base most s v i) (h : i < length s) where
  pub reading_none : {x : Option ℕ} → base ≤ 16 → x ≡ hex_digit_of (get_or s i 0) → x ≡ None → None ≡ digits_of base most s
  reading_none b e n =
      let k = no_worth (get_or s i 0) (sym e ∙ n) in
      let p : rest_of base most v (drop i s) ≡ None = rw (drop-cons s i 0 h) (rest_wrong base most v (get_or s i 0) (drop (suc i) s) (omega arith)) in
      sym (some base most s (omega arith) ∙ r.left ∙ p)

  module _ {d : ℕ} {x : Option ℕ} (q : x ≡ hex_digit_of (get_or s i 0)) (w : x ≡ Some d) where
    e : d ≡ digit_of (get_or s i 0)
    e = (worth (get_or s i 0) d (sym q ∙ w)).0

    pub reading_more : (n : ℕ) → d < base → grown_of base most v d ≡ Some n → Reading base most s n (i + 1)
    reading_more n b g =
        let f = grown_fits base most v d n g in
        let q : v * base + digit_of (get_or s i 0) ≡ n = rw (← e) (sym f.0) in
        let k : digit_of (get_or s i 0) < base = omega (arith, e) in
        let p : rest_of base most v (drop i s) ≡ rest_of base most n (drop (i + 1) s)
        = rw (add-one, drop-cons s i 0 h) (rest_more base most v (get_or s i 0) n (drop (suc i) s) k q) in
        record { inside = omega arith; below = f.1; left = r.left ∙ p }

    pub reading_wrong : base ≤ d → None ≡ digits_of base most s
    reading_wrong b =
        let k : base ≤ digit_of (get_or s i 0) = omega (arith, e) in
        let p : rest_of base most v (drop i s) ≡ None = rw (drop-cons s i 0 h) (rest_wrong base most v (get_or s i 0) (drop (suc i) s) k) in
        sym (some base most s (omega arith) ∙ r.left ∙ p)

    pub reading_over : 0 < base → d < base → grown_of base most v d ≡ None → None ≡ digits_of base most s
    reading_over q b g =
        let f = grown_bad base most v d g in
        let k : digit_of (get_or s i 0) < base = omega (arith, e) in
        let m : most < v * base + digit_of (get_or s i 0) = omega (arith, e) in
        let p : rest_of base most v (drop i s) ≡ None
        = rw (drop-cons s i 0 h) (rest_more base most v (get_or s i 0) (v * base + digit_of (get_or s i 0)) (drop (suc i) s) k refl)
        ∙ rest_over base most (v * base + digit_of (get_or s i 0)) (drop (suc i) s) q m in
        sym (some base most s (omega arith) ∙ r.left ∙ p)

pub reading_empty : (base most : ℕ) (s : List ℕ) → length s ≡ 0 → None ≡ digits_of base most s
unfolding digits_of
reading_empty base most s e = rw (eq-eqb (length s) 0 e)

pub reading_end : {base most : ℕ} {s : List ℕ} {v i : ℕ} → Reading base most s v i → length s ≤ i → (length s ≡ 0 → ⊥) → Some v ≡ digits_of base most s
unfolding rest_of
reading_end {base} {most} {s} {v} {i} r h n =
    let p : rest_of base most v (drop i s) ≡ Some v = rw (drop_of_length-le s h, le-leb v most r.below) in
    sym (some base most s (pos (length s) n) ∙ r.left ∙ p)
  where
    pos : (k : ℕ) → (k ≡ 0 → ⊥) → 0 < k
    pos zero z = absurd (z refl)
    pos (suc k) z = omega arith

-- read: the digits after the "0x" that starts the word, and those of any other word
starts : (w : List ℕ) → pointwise nat_eq (take 2 w) (48 ∷ 120 ∷ []) ≡ hexed w
unfolding hexed
starts [] = refl
starts (a ∷ []) = and_false (eqb a 48)
starts (a ∷ b ∷ cs) = rw (le-leb 2 (length (a ∷ b ∷ cs)) (omega arith)) (go (eqb a 48) (eqb b 120))
  where
    go : (t u : Bool) → t && (u && true) ≡ (true && t) && u
    go true true = refl
    go true false = refl
    go false u = refl

pub after_x : (w rest : List ℕ) (most : ℕ) {r : Option ℕ} → pointwise nat_eq (take 2 w) (48 ∷ 120 ∷ []) ≡ true → rest ≡ drop 2 w → r ≡ digits_of 16 most rest → r ≡ number_of w most
unfolding number_of
after_x w rest most e q h = let k = sym (starts w) ∙ e in h ∙ rw (k, q)

pub plain : (w : List ℕ) (most : ℕ) {r : Option ℕ} → pointwise nat_eq (take 2 w) (48 ∷ 120 ∷ []) ≡ false → r ≡ digits_of 10 most w → r ≡ number_of w most
unfolding number_of
plain w most e h = let k = sym (starts w) ∙ e in h ∙ rw k
