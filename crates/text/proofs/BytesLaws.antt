-- Laws of bytes as digits: what each loop keeps, and what it has shown at its end. Assumes nothing.
use Prim.Native.Nat.{ℕ, zero, suc, ◌+◌, ◌*◌, ◌/◌, ◌%◌, ◌≤◌, ◌<◌}
use mathlib.Core.Path.{◌≡◌, refl, sym, ◌∙◌, ap}
use mathlib.Core.Bool.{Bool, true, false, ◌&&◌}
use mathlib.Core.List.{List, [], ◌∷◌}
use native.Mathlib.Numerals.{add-one}
use native.Mathlib.Omega.{arith}
use Rattle.std.proofs.Common.{rules}
use lib.ListN.{length, get_or, drop, set, length-set, length-drop}
use lib.Seq.{drop-cons, sets, sets-eq}
use lib.Dec.{leb, ltb, eqb}
use borrow.Author.Tests.{le-leb, lt-leb, lt-ltb, ltb-true, eq-eqb, ne_eqb}
use Rattle.codec.proofs.BoolLaws.{and_false, and_l, and_r}
use Rattle.text.specs.Digit.{digit_of, hex_digit_of, all_below}
use Rattle.text.proofs.DigitLaws.{worth, has_worth}
use Rattle.codec.specs.Number.{over}
use Rattle.text.specs.Line.{same_of}
use Rattle.text.specs.Bytes.{pairs, spells, Filled}
use Rattle.std.specs.Prelude.{Option, Some, None, IsSome}

-- each digit by itself
pub digit_at : (s : List ℕ) (i : ℕ) → all_below 16 s ≡ true → i < length s → digit_of (get_or s i 0) < 16
digit_at [] i e h = absurd (omega arith)
digit_at (c ∷ cs) zero e h = ltb-true (digit_of c) 16 (and_l (ltb (digit_of c) 16) (all_below 16 cs) e)
digit_at (c ∷ cs) (suc j) e h = digit_at cs j (and_r (ltb (digit_of c) 16) (all_below 16 cs) e) (omega arith)

-- and so each has a worth
pub some_worth : (s : List ℕ) (i : ℕ) {r : Option ℕ} → all_below 16 s ≡ true → i < length s → r ≡ hex_digit_of (get_or s i 0) → IsSome r
some_worth s i e h q = rw (q, has_worth (get_or s i 0) (digit_at s i e h)) (search rules)

pub worth_at : (s : List ℕ) (i d : ℕ) {r : Option ℕ} → r ≡ hex_digit_of (get_or s i 0) → r ≡ Some d → (d ≡ digit_of (get_or s i 0)) × (d < 16)
worth_at s i d q e = worth (get_or s i 0) d (sym q ∙ e)

pub pairs-length : (w : List ℕ) → length (pairs w) ≡ length w / 2
pairs-length [] = refl
pairs-length (a ∷ []) = refl
pairs-length (a ∷ b ∷ cs) = let r = pairs-length cs in omega arith

pairs_few : (w : List ℕ) → length w < 2 → pairs w ≡ []
pairs_few [] h = refl
pairs_few (a ∷ []) h = refl
pairs_few (a ∷ b ∷ cs) h = absurd (omega arith)

-- the first i bytes stand at the front
pub record Laying (w l out : List ℕ) (i : ℕ) : Type 0 where
  pub most : i ≤ length w / 2
  pub size : length out ≡ length l
  pub left : sets l 0 (pairs w) ≡ sets out i (pairs (drop (2 * i) w))

pub laying_more : {w l out : List ℕ} {i : ℕ} (a b : ℕ) → Laying w l out i → i < length w / 2 → a ≡ digit_of (get_or w (2 * i) 0) → b ≡ digit_of (get_or w (2 * i + 1) 0)
    → Laying w l (set out i (a * 16 + b)) (i + 1)
laying_more {w} {l} {out} {i} a b g h ea eb =
    let q : 2 * (i + 1) ≡ suc (suc (2 * i)) = omega arith in
    let p : pairs (drop (2 * i) w) ≡ (a * 16 + b) ∷ pairs (drop (2 * (i + 1)) w)
    = rw (q, ea, eb, add-one (2 * i), drop-cons w (2 * i) 0 (omega arith), drop-cons w (suc (2 * i)) 0 (omega arith)) in
    record {
      most = omega arith;
      size = simp length-set g.size;
      left = g.left ∙ ap (sets out i) p ∙ ap (λ (k : ℕ). sets (set out i (a * 16 + b)) k (pairs (drop (2 * (i + 1)) w))) (sym (add-one i));
    }

pub laying_end : {w l out : List ℕ} {i : ℕ} → Laying w l out i → length w / 2 ≤ i → length w ≤ 2 * length l → out ≡ over l 0 (pairs w)
laying_end {w} {l} {out} {i} g h f =
    let p : pairs (drop (2 * i) w) ≡ [] = pairs_few (drop (2 * i) w) (omega (arith, length-drop (2 * i) w)) in
    sym (g.left ∙ ap (sets out i) p) ∙ sets-eq (pairs w) l 0 (omega (arith, pairs-length w))

-- the answers
pub filled_wrong : {good : Bool} {bs l : List ℕ} → good ≡ false → Filled good bs l l None
filled_wrong e = record { list = rw e; answer = rw e }

pub filled_small : {good : Bool} {bs l : List ℕ} → length l < length bs → Filled good bs l l None
filled_small {good} {bs} {l} h =
    let e : good && leb (length bs) (length l) ≡ false = rw (lt-leb (length bs) (length l) h) (and_false good) in
    record { list = rw e; answer = rw e }

pub filled : {good : Bool} {bs l l' : List ℕ} {n : ℕ} → good ≡ true → length bs ≤ length l → l' ≡ over l 0 bs → n ≡ length bs → Filled good bs l l' (Some n)
filled {good} {bs} {l} {l'} {n} g h e k =
    let t : leb (length bs) (length l) ≡ true = le-leb (length bs) (length l) h in
    record { list = rw (g, t) e; answer = rw (g, t, k) }

-- which words are bytes
dash-none : (w : List ℕ) → same_of w (45 ∷ []) ≡ true → pairs w ≡ []
dash-none [] e = refl
dash-none (x ∷ []) e = refl
dash-none (x ∷ y ∷ zs) e = let z : false ≡ true = and_r (eqb x 45) false e in cc

pub dashed : {l : List ℕ} (w : List ℕ) → same_of w (45 ∷ []) ≡ true → Filled (spells w) (pairs w) l l (Some 0)
unfolding spells
dashed {l} w e = rw (dash-none w e) (filled (rw e) (omega arith) refl refl)

module _ (w : List ℕ) (d : same_of w (45 ∷ []) ≡ false) where
  pub too_short : length w / 2 ≡ 0 → spells w ≡ false
  unfolding spells
  too_short h = go (ltb 0 (length w)) refl
    where
      go : (t : Bool) → ltb 0 (length w) ≡ t → spells w ≡ false
      go true e = let k : 0 < length w = ltb-true 0 (length w) e in rw (d, e, ne_eqb (length w % 2) 0 (λ z. omega arith))
      go false e = rw (d, e)

  pub odd : (length w % 2 ≡ 0 → ⊥) → spells w ≡ false
  unfolding spells
  odd h = rw (d, lt-ltb 0 (length w) (go (length w) h), ne_eqb (length w % 2) 0 h)
    where
      go : (n : ℕ) → (n % 2 ≡ 0 → ⊥) → 0 < n
      go zero k = absurd (k refl)
      go (suc n) k = omega arith

  pub no_digit : all_below 16 w ≡ false → spells w ≡ false
  unfolding spells
  no_digit e = rw (d, e) (and_false (ltb 0 (length w) && eqb (length w % 2) 0))

  pub good : (length w / 2 ≡ 0 → ⊥) → length w % 2 ≡ 0 → all_below 16 w ≡ true → spells w ≡ true
  unfolding spells
  good h k e = rw (d, lt-ltb 0 (length w) (go (length w) h), eq-eqb (length w % 2) 0 k, e)
    where
      go : (n : ℕ) → (n / 2 ≡ 0 → ⊥) → 0 < n
      go zero z = absurd (z refl)
      go (suc n) z = omega arith
