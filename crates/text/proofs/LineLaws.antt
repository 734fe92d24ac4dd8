-- Laws of lines and words. Assumes nothing.
use Prim.Native.Nat.{ℕ, suc, ◌+◌, ◌≤◌, ◌<◌}
use mathlib.Core.Path.{◌≡◌, refl, sym, ◌∙◌, ap}
use mathlib.Core.Bool.{Bool, true, false, not, cond}
use mathlib.Core.List.{List, [], ◌∷◌}
use native.Mathlib.Numerals.{add-one}
use native.Mathlib.Omega.{arith}
use lib.ListN.{length, get_or, take, drop}
use denote.Ref.{Bor}
use lib.Dec.{eqb, ltb}
use borrow.Author.Tests.{ltb-true, ltb-false}
use Rattle.std.specs.Prelude.{Option, Some, None, option_map, slice_get, unwrap_or, position}
use Rattle.std.proofs.lemmas.Option.{get_or_from_slice_get, unwrap_or-slice_get}
use Rattle.std.proofs.lemmas.List.Splits.{slice_split_first}
use Rattle.std.proofs.lemmas.List.Sums.{prefix_len-le-length}
use Rattle.text.specs.Line.{ahead, Found, split}

-- find
pub found : (s : List ℕ) (b : ℕ) (r : Option ℕ) → r ≡ position (λ x. eqb x b) s → Found s b (unwrap_or r (length s))
found s b r e = rw e (go (ltb (ahead b s) (length s)) refl)
  where
    go : (t : Bool) → ltb (ahead b s) (length s) ≡ t → Found s b (unwrap_or (cond t (Some (ahead b s)) None) (length s))
    go true q = let h = ltb-true (ahead b s) (length s) q in record { is = refl; most = omega arith }
    go false q =
        let h = ltb-false (ahead b s) (length s) q in
        let k = prefix_len-le-length (λ x. not (eqb x b)) s in
        record { is = omega arith; most = omega arith }

-- words: the first word and the rest
pub cut : (l : List ℕ) → ahead 32 l < length l → split l ≡ take (ahead 32 l) l ∷ split (drop (suc (ahead 32 l)) l)
cut l h = rw (← add-one (ahead 32 l)) (slice_split_first (λ x. eqb x 32) l 0 h)

pub whole : (l : List ℕ) → length l ≤ ahead 32 l → split l ≡ l ∷ []
whole [] h = refl
whole (x ∷ xs) h = go (eqb x 32) refl (λ p. whole xs p)
  where
    go : (t : Bool) → eqb x 32 ≡ t → (length xs ≤ ahead 32 xs → split xs ≡ xs ∷ []) → split (x ∷ xs) ≡ (x ∷ xs) ∷ []
    go true e r = let k : suc (length xs) ≤ 0 = rw e at h in absurd (omega arith)
    go false e r =
        let k : suc (length xs) ≤ 1 + ahead 32 xs = rw e at h in
        rw (e, r (omega arith))

-- the word that a search of the words gives, and nothing past the last
pub nth_word : (s : List ℕ) (k : ℕ) (r : Option (Bor (List ℕ))) (none : Bor (List ℕ)) → none.now ≡ [] → option_map (λ w. w.now) r ≡ slice_get (split s) k → (unwrap_or r none).now ≡ get_or (split s) k []
nth_word s k (Some w) none z e = sym (get_or_from_slice_get (split s) k w.now [] (sym e))
nth_word s k None none z e = z ∙ ap (λ (r : Option (List ℕ)). unwrap_or r []) e ∙ unwrap_or-slice_get (split s) k []
