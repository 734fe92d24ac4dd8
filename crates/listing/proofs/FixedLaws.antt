-- Laws of a fixed number of digits, over the base and the width. Assumes nothing.
use Prim.Native.Nat.{ℕ, zero, suc, ◌-◌, ◌/◌, ◌%◌, ◌≤◌, ◌<◌}
use mathlib.Core.Path.{◌≡◌, refl, sym, ◌∙◌, ap}
use mathlib.Core.List.{List, [], ◌∷◌, ◌++◌, append_assoc}
use native.Mathlib.Omega.{arith}
use lib.ListN.{length, drop, set, length-append, length-set}
use Rattle.text.proofs.PutLaws.{stored}
use Rattle.text.specs.Put.{capital_of}
use Rattle.listing.specs.Line.{fixed_of}

pub fixed_length : (base n v : ℕ) → length (fixed_of base n v) ≡ n
unfolding fixed_of
fixed_length base zero v = refl
fixed_length base (suc n) v =
    let h : length (fixed_of base n (v / base)) ≡ n = fixed_length base n (v / base) in
    simp length-append (omega arith)

-- the digits from the last to the first: i are still to be written in front of those in out, and x is what is left of v
pub record Fixing (base n v : ℕ) (out : List ℕ) (x i : ℕ) : Type 0 where
  pub most : i ≤ n
  pub size : length out ≡ n
  pub left : fixed_of base n v ≡ fixed_of base i x ++ drop i out

pub fixing_more : {base n v : ℕ} {out : List ℕ} {x i : ℕ} (b : ℕ) → Fixing base n v out x i → 0 < i → 1 ≤ base → base ≤ 16 → b ≡ capital_of (x % base % 16)
    → Fixing base n v (set out (i - 1) b) (x / base) (i - 1)
unfolding fixed_of
fixing_more {base} {n} {v} {out} {x} {i} b s p lo hi e =
    let m = s.most in
    let z = s.size in
    let q : i ≡ suc (i - 1) = omega arith in
    let d : x % base % 16 ≡ x % base = omega arith in
    let f : b ≡ capital_of (x % base) = e ∙ ap capital_of d in
    let t : drop (i - 1) (set out (i - 1) b) ≡ b ∷ drop (suc (i - 1)) out = stored out (i - 1) b (omega arith) in
    record {
      most = omega arith;
      size = simp length-set z;
      left = s.left ∙ ap (λ (k : ℕ). fixed_of base k x ++ drop k out) q
          ∙ rw (t, ← f) (append_assoc (fixed_of base (i - 1) (x / base)) (b ∷ []) (drop (suc (i - 1)) out));
    }

pub fixing_end : {base n v : ℕ} {out : List ℕ} {x i : ℕ} → Fixing base n v out x i → i ≤ 0 → out ≡ fixed_of base n v
unfolding fixed_of
fixing_end {base} {n} {v} {out} {x} {i} s h =
    let q : i ≡ 0 = omega arith in
    sym (s.left ∙ ap (λ (k : ℕ). fixed_of base k x ++ drop k out) q)
