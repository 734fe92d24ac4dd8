-- Laws of a text that is made byte by byte, over what is made of a byte. Assumes nothing.
use Prim.Native.Nat.{ℕ, suc, ◌+◌, ◌*◌, ◌≤◌, ◌<◌}
use mathlib.Core.Path.{◌≡◌, refl, sym, ◌∙◌, ap}
use mathlib.Core.List.{List, [], ◌∷◌, ◌++◌}
use native.Mathlib.Nat.{add-zero}
use native.Mathlib.Numerals.{add-one}
use native.Mathlib.Omega.{arith}
use lib.ListN.{length, length-append, get_or, drop, set, drop_of_length-le}
use lib.Seq.{drop-cons, sets, sets-eq}
use Rattle.text.specs.Short.{Short}
use Rattle.listing.specs.Line.{fixed_of, spread}
use Rattle.listing.proofs.FixedLaws.{fixed_length}

sets_append : (xs ys l : List ℕ) (i : ℕ) → sets l i (xs ++ ys) ≡ sets (sets l i xs) (i + length xs) ys
sets_append [] ys l i = rw (add-zero i)
sets_append (x ∷ xs) ys l i =
    let e : suc i + length xs ≡ i + suc (length xs) = omega arith in
    sets_append xs ys (set l i x) (suc i) ∙ ap (λ (k : ℕ). sets (sets (set l i x) (suc i) xs) k ys) e

module _ (f : ℕ → List ℕ) where
  -- the byte at i, and the rest
  next_byte : (src : List ℕ) (i : ℕ) → i < length src → spread f (drop i src) ≡ f (get_or src i 0) ++ spread f (drop (suc i) src)
  next_byte src i h = ap (spread f) (drop-cons src i 0 h)

  next_length : (src : List ℕ) (i : ℕ) → i < length src
      → length (spread f (drop i src)) ≡ length (f (get_or src i 0)) + length (spread f (drop (suc i) src))
  next_length src i h = ap length (next_byte src i h) ∙ length-append (f (get_or src i 0)) (spread f (drop (suc i) src))

  none_left : (src : List ℕ) (i : ℕ) → length src ≤ i → spread f (drop i src) ≡ []
  none_left src i h = ap (spread f) (drop_of_length-le src h)

-- what is made of the first i bytes stands at index at, up to index k
pub record Spreading (f : ℕ → List ℕ) (l : List ℕ) (at : ℕ) (src out : List ℕ) (i k : ℕ) : Type 0 where
  pub most : i ≤ length src
  pub size : length out ≡ length l
  pub next : at + length (spread f src) ≡ k + length (spread f (drop i src))
  pub left : sets l at (spread f src) ≡ sets out k (spread f (drop i src))

module _ {f : ℕ → List ℕ} {l : List ℕ} {at : ℕ} {src out : List ℕ} {i k : ℕ} (g : Spreading f l at src out i k) where
  pub spreading_room : i < length src → at + length (spread f src) ≤ length l → k + length (f (get_or src i 0)) ≤ length out
  spreading_room h r =
      let n = g.next in
      let z = g.size in
      omega (arith, next_length f src i h)

  pub spreading_more : {n : ℕ} {out' : List ℕ} {k' : ℕ} → i < length src → Short n out k (f (get_or src i 0)) out' k' → Spreading f l at src out' (i + 1) k'
  spreading_more {n} {out'} {k'} h s =
      let b : List ℕ = f (get_or src i 0) in
      let rest : List ℕ = spread f (drop (suc i) src) in
      let e : sets out k b ≡ out' = sets-eq b out k s.fits ∙ sym s.laid.list in
      let p : sets out k (spread f (drop i src)) ≡ sets out' k' rest
      = ap (sets out k) (next_byte f src i h) ∙ sets_append b rest out k ∙ rw (e, ← s.laid.next) in
      let m = g.next in
      let z = g.size in
      let y = s.laid.next in
      let x = s.kept in
      rw (add-one i) record { most = omega arith; size = omega arith; next = omega (arith, next_length f src i h); left = g.left ∙ p }

  pub spreading_end : length src ≤ i → at + length (spread f src) ≤ length l → Short (length (spread f src)) l at (spread f src) out k
  spreading_end h r =
      let e : spread f (drop i src) ≡ [] = none_left f src i h in
      let z : length (spread f (drop i src)) ≡ 0 = ap length e in
      let q : sets out k (spread f (drop i src)) ≡ out = ap (sets out k) e in
      let n = g.next in
      record {
        laid = record { list = sym (g.left ∙ q) ∙ sets-eq (spread f src) l at r; next = omega arith };
        most = omega arith;
        fits = r;
        kept = g.size;
      }

-- of room places, left are left for what is made of the bytes from i on
pub record Fitting (f : ℕ → List ℕ) (src : List ℕ) (room left i : ℕ) : Type 0 where
  pub most : i ≤ length src
  pub sum : length (spread f src) + left ≡ length (spread f (drop i src)) + room

-- two digits for each byte
pub pairs-length : (bs : List ℕ) → length (spread (fixed_of 16 2) bs) ≡ 2 * length bs
pairs-length [] = refl
pairs-length (b ∷ bs) =
    let r = pairs-length bs in
    let d = fixed_length 16 2 b in
    length-append (fixed_of 16 2 b) (spread (fixed_of 16 2) bs) ∙ omega arith
