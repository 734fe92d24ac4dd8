-- Short texts laid one after the other. Assumes nothing.
use Prim.Native.Nat.{ℕ, ◌+◌, ◌≤◌}
use mathlib.Core.Path.{◌≡◌, refl, sym, ◌∙◌, ap}
use mathlib.Core.Bool.{true}
use mathlib.Core.List.{List, ◌++◌}
use native.Mathlib.Omega.{arith}
use lib.ListN.{length, length-append}
use Rattle.codec.specs.Number.{over, Wrote}
use Rattle.std.specs.Prelude.{Option, Some}
use Rattle.codec.proofs.NumberLaws.{hit, kept, chain, chain_put, from_laid, length_over}
use Rattle.text.specs.Short.{Short}

-- a write that had room
pub short_put : {l : List ℕ} {at : ℕ} {bs l' : List ℕ} {p : Option ℕ} (k : ℕ) → Wrote true l at bs l' p → at + length bs ≤ length l → length bs ≤ k
    → Short k l at bs l' (at + length bs)
short_put {l} {at} {bs} {l'} k w h m =
    let e : l' ≡ over l at bs = kept w h in
    record { laid = record { list = e; next = refl }; most = omega arith; fits = h; kept = ap length e ∙ length_over l at bs h }

next_is : {l : List ℕ} {at : ℕ} {bs l' : List ℕ} {p : Option ℕ} → Wrote true l at bs l' p → at + length bs ≤ length l → p ≡ Some (at + length bs)
next_is w h = w.answer ∙ sym (hit _ _ _ _ _ h refl)

-- a text of at most k characters always finds k places
module _ {l : List ℕ} {at : ℕ} {bs l' : List ℕ} {p : Option ℕ} (k : ℕ) (w : Wrote true l at bs l' p) (m : length bs ≤ k) (h : at + k ≤ length l) where
  room : at + length bs ≤ length l
  room = omega arith

-- one after the other
pub short_then : {j n : ℕ} {l : List ℕ} {at : ℕ} {xs ys m l' : List ℕ} {k r : ℕ} → Short j l at xs m k → Short n m k ys l' r → Short (j + n) l at (xs ++ ys) l' r
short_then {j} {n} {l} {at} {xs} {ys} a b =
    let p = a.laid.next in
    let q = a.kept in
    let f = b.fits in
    let u = a.most in
    let v = b.most in
    record {
      laid = chain a.laid b.laid a.fits;
      most = omega arith;
      fits = rw (length-append xs ys) (omega arith);
      kept = b.kept ∙ q;
    }

-- the same text under another name, and a wider bound
pub short_as : {j k : ℕ} {l : List ℕ} {at : ℕ} {bs cs l' : List ℕ} {r : ℕ} → Short j l at bs l' r → bs ≡ cs → j ≤ k → Short k l at cs l' r
short_as {j} {k} {l} {at} {bs} {cs} {l'} {r} a e h =
    let b : Short j l at cs l' r = rw e at a in
    let m = b.most in
    record { laid = b.laid; most = omega arith; fits = b.fits; kept = b.kept }

-- what was laid is written
pub short_wrote : {k : ℕ} {l : List ℕ} {at : ℕ} {bs l' : List ℕ} {r : ℕ} → Short k l at bs l' r → Wrote true l at bs l' (Some r)
short_wrote a = from_laid refl a.fits a.laid

pub short_is : {k : ℕ} {l : List ℕ} {at : ℕ} {bs cs l' : List ℕ} {r : ℕ} → Short k l at bs l' r → bs ≡ cs → Short k l at cs l' r
short_is a e = rw e at a

-- a text, then one that may be long
pub after_front : {l : List ℕ} {at : ℕ} {xs ys m l' : List ℕ} {p r : Option ℕ} → Wrote true l at xs m p → Wrote true m (at + length xs) ys l' r
    → at + length xs + length ys ≤ length l → Wrote true l at (xs ++ ys) l' r
after_front {l} {at} {xs} {ys} {m} {l'} {p} {r} a b h =
    let s = short_put (length xs) a (omega arith) (omega arith) in
    let q = s.kept in
    let y : r ≡ Some (at + length xs + length ys) = next_is b (omega arith) in
    rw y (from_laid refl (rw (length-append xs ys) (omega arith)) (chain_put s.laid b (omega arith)))
