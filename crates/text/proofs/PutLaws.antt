-- Laws of text written over a list: what each loop keeps, and what it has shown at its end. Assumes nothing.
use Prim.Native.Nat.{ℕ, zero, suc, ◌+◌, ◌-◌, ◌*◌, ◌/◌, ◌%◌, ◌≤◌, ◌<◌}
use mathlib.Core.Path.{◌≡◌, refl, sym, ◌∙◌, ap}
use mathlib.Core.Bool.{Bool, true, false}
use mathlib.Core.List.{List, [], ◌∷◌, ◌++◌, append_assoc, append-nil}
use native.Mathlib.Omega.{arith}
use Rattle.codec.specs.Choice.{pick}
use lib.ListN.{length, length-append, drop, set, length-set, drop_of_length-le}
use lib.Seq.{drop-cons, sets, sets-eq, drop-set-lt, get_or-set_same}
use lib.Dec.{ltb}
use Rattle.codec.proofs.NumberLaws.{full, wrote}
use borrow.Author.Tests.{lt-ltb, le-ltb}
use Rattle.codec.specs.Number.{over, Wrote}
use Rattle.text.specs.Put.{hexes, hex_of, decimals, decimal_of, Ends}
use Rattle.std.specs.Prelude.{Some, None}

-- hex: the digits of the first i of src stand at index at, up to index k
pub record Hexing (l : List ℕ) (at : ℕ) (src out : List ℕ) (i k : ℕ) : Type 0 where
  pub most : i ≤ length src
  pub size : length out ≡ length l
  pub next : k ≡ at + 2 * i
  pub left : sets l at (hexes src) ≡ sets out k (hexes (drop i src))

pub hexes-length : (bs : List ℕ) → length (hexes bs) ≡ 2 * length bs
hexes-length [] = refl
hexes-length (b ∷ bs) = let r = hexes-length bs in omega arith

pub hexing_end : {l : List ℕ} {at : ℕ} {src out : List ℕ} {i k : ℕ} → Hexing l at src out i k → length src ≤ i → at + 2 * length src ≤ length l → out ≡ over l at (hexes src)
hexing_end {l} {at} {src} {out} {i} {k} g h f =
    let p : sets out k (hexes (drop i src)) ≡ out = rw (drop_of_length-le src h) in
    sym (g.left ∙ p) ∙ sets-eq (hexes src) l at (omega (arith, hexes-length src))

hex_some : (bs : List ℕ) → (length bs ≡ 0 → ⊥) → hex_of bs ≡ hexes bs
hex_some [] h = absurd (h refl)
hex_some (b ∷ bs) h = refl

pub hex_full : {l : List ℕ} {at : ℕ} (bs : List ℕ) → (length bs ≡ 0 → ⊥) → length l < at + 2 * length bs → Wrote true l at (hex_of bs) l None
hex_full {l} {at} bs p h = rw (hex_some bs p) (full (omega (arith, hexes-length bs)))

pub hex_wrote : {l : List ℕ} {at : ℕ} {l' : List ℕ} (bs : List ℕ) → (length bs ≡ 0 → ⊥) → at + 2 * length bs ≤ length l → l' ≡ over l at (hexes bs) → Wrote true l at (hex_of bs) l' (Some (at + 2 * length bs))
hex_wrote {l} {at} {l'} bs p h e =
    let n = hexes-length bs in
    rw (hex_some bs p, ← n) (wrote (omega arith) e)

-- decimal: what is left of v is x, for which i places are left
pub record Spelling (v : ℕ) (text : List ℕ) (x i : ℕ) : Type 0 where
  pub most : i ≤ 20
  pub size : length text ≡ 20
  pub left : decimal_of v ≡ decimals i x ++ drop i text

pub spelling_first : (text : List ℕ) (v : ℕ) → length text ≡ 20 → Spelling v text v 20
unfolding decimal_of
spelling_first text v n =
    record { most = omega arith; size = n; left = rw (drop_of_length-le text {i = 20} (omega arith), append-nil) }

-- a store at the place before what stands at the end
pub stored : (text : List ℕ) (j b : ℕ) → j < length text → drop j (set text j b) ≡ b ∷ drop (suc j) text
stored text j b h =
    drop-cons (set text j b) j 0 (simp length-set h) ∙ rw (get_or-set_same text j b 0 h, drop-set-lt (suc j) text j b (omega arith))

pub spelling_more : {v : ℕ} {text : List ℕ} {x i : ℕ} (b y : ℕ) → Spelling v text x i → 0 < i → b ≡ x % 10 + 48 → y ≡ x / 10 → (y ≡ 0 → ⊥) → Spelling v (set text (i - 1) b) y (i - 1)
unfolding decimals
spelling_more {v} {text} {x} {i} b y s p eb ey n =
    let m = s.most in
    let z = s.size in
    let q : i ≡ suc (i - 1) = omega arith in
    let d : decimals (suc (i - 1)) x ≡ decimals (i - 1) y ++ (b ∷ []) = rw (le-ltb x 10 (omega arith), eb, ey) in
    let t : drop (i - 1) (set text (i - 1) b) ≡ b ∷ drop (suc (i - 1)) text = stored text (i - 1) b (omega arith) in
    record {
      most = omega arith;
      size = simp length-set z;
      left = s.left ∙ ap (λ (k : ℕ). decimals k x ++ drop k text) q ∙ rw (d, t) (append_assoc (decimals (i - 1) y) (b ∷ []) (drop (suc (i - 1)) text));
    }

pub spelling_last : {v : ℕ} {text : List ℕ} {x i : ℕ} (b : ℕ) → Spelling v text x i → 0 < i → b ≡ x % 10 + 48 → x / 10 ≡ 0 → Ends (set text (i - 1) b) (decimal_of v) (i - 1)
unfolding decimals
spelling_last {v} {text} {x} {i} b s p eb e =
    let m = s.most in
    let z = s.size in
    let q : i ≡ suc (i - 1) = omega arith in
    let w : b ≡ x + 48 = omega arith in
    let d : decimals (suc (i - 1)) x ≡ b ∷ [] = rw (lt-ltb x 10 (omega arith), w) in
    record {
      tail = stored text (i - 1) b (omega arith) ∙ sym (s.left ∙ ap (λ (k : ℕ). decimals k x ++ drop k text) q ∙ rw d);
      most = omega arith;
    }

pub spelling_end : {v : ℕ} {text : List ℕ} {x i : ℕ} → Spelling v text x i → i ≤ 0 → Ends text (decimal_of v) 0
unfolding decimals
spelling_end {v} {text} {x} {i} s h =
    let q : i ≡ 0 = omega arith in
    record { tail = sym (s.left ∙ ap (λ (k : ℕ). decimals k x ++ drop k text) q); most = omega arith }

-- a number has as many digits as it was given places, at most
pub decimals-length : (n v : ℕ) → length (decimals n v) ≤ n
unfolding decimals
decimals-length zero v = omega arith
decimals-length (suc n) v = go (decimals-length n (v / 10)) (ltb v 10)
  where
    go : length (decimals n (v / 10)) ≤ n → (t : Bool) → length (pick t ((v + 48) ∷ []) (decimals n (v / 10) ++ ((v % 10 + 48) ∷ []))) ≤ suc n
    go h true = omega arith
    go h false = simp length-append (omega arith)

pub decimal_digit : (v : ℕ) → v < 10 → (v + 48) ∷ [] ≡ decimal_of v
unfolding decimal_of decimals
decimal_digit v h = rw (lt-ltb v 10 h)

pub decimal_length : (v : ℕ) → length (decimal_of v) ≤ 20
unfolding decimal_of
decimal_length v = decimals-length 20 v
