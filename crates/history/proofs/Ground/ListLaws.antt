-- Laws of lists: a property of every member, two lists member by member, and what is picked out of the closed frames.
use Prim.Native.Nat.{ℕ, zero, suc, ◌+◌}
use mathlib.Core.Path.{◌≡◌, refl, sym, ap, ◌∙◌}
use mathlib.Core.Bool.{Bool, true, false, true≢false, false≢true}
use mathlib.Core.List.{List, [], ◌∷◌, ◌++◌, map, reverse, reverse_aux, append_assoc}
use native.Mathlib.Omega.{arith}
use lib.ListN.{length, take, drop, get_or, set, replicate}
use lib.Seq.{drop-drop}
use Rattle.codec.specs.Choice.{pick}
use Rattle.history.specs.Ledger.{Frame, Closed, is_empty, kept_in, discarded_in, unmarked, failures_in, lines_closed}
use Rattle.history.specs.History.{All, Both}

-- lists with and without a member
pub empty_is : {A : Type 0} (xs : List A) → is_empty xs ≡ true → xs ≡ []
empty_is [] e = refl
empty_is (x ∷ xs) e = absurd (false≢true e)

pub not_empty : {A : Type 0} (xs : List A) → is_empty xs ≡ false → xs ≡ [] → ⊥
not_empty xs e z = true≢false (sym (ap is_empty z) ∙ e)

pub length_none : {A : Type 0} (xs : List A) → length xs ≡ 0 → xs ≡ []
length_none [] e = refl
length_none (x ∷ xs) e = let z : ⊥ = omega arith in absurd z

pub snoc_filled : {A : Type 0} (xs : List A) (x : A) → is_empty (xs ++ (x ∷ [])) ≡ false
snoc_filled [] x = refl
snoc_filled (y ∷ xs) x = refl

-- a property of every member
module _ {A : Type 0} (P : A → Type 0) where
  pub all_append : (xs ys : List A) → All P xs → All P ys → All P (xs ++ ys)
  all_append [] ys p q = q
  all_append (x ∷ xs) ys p q = (p.0, all_append xs ys p.1 q)

  all_pick : (b : Bool) (x : A) → P x → All P (pick b (x ∷ []) [])
  all_pick true x p = (p, tt)
  all_pick false x p = tt

  pub all_get : (xs : List A) (k : ℕ) (d : A) → P d → All P xs → P (get_or xs k d)
  all_get [] k d e p = e
  all_get (x ∷ xs) zero d e p = p.0
  all_get (x ∷ xs) (suc k) d e p = all_get xs k d e p.1

  pub all_set : (xs : List A) (k : ℕ) (y : A) → P y → All P xs → All P (set xs k y)
  all_set [] k y e p = tt
  all_set (x ∷ xs) zero y e p = (e, p.1)
  all_set (x ∷ xs) (suc k) y e p = (p.0, all_set xs k y e p.1)

  pub all_replicate : (n : ℕ) (x : A) → P x → All P (replicate n x)
  all_replicate zero x e = tt
  all_replicate (suc n) x e = (e, all_replicate n x e)

  pub all_take : (n : ℕ) (xs : List A) → All P xs → All P (take n xs)
  all_take zero xs p = tt
  all_take (suc n) [] p = tt
  all_take (suc n) (x ∷ xs) p = (p.0, all_take n xs p.1)

  pub all_drop : (n : ℕ) (xs : List A) → All P xs → All P (drop n xs)
  all_drop zero xs p = p
  all_drop (suc n) [] p = tt
  all_drop (suc n) (x ∷ xs) p = all_drop n xs p.1

  pub all_map : (Q : A → Type 0) → ((x : A) → P x → Q x) → (xs : List A) → All P xs → All Q xs
  all_map Q f [] p = tt
  all_map Q f (x ∷ xs) p = (f x p.0, all_map Q f xs p.1)

pub all_unit : {A : Type 0} (xs : List A) → All (λ (x : A). Unit {0}) xs
all_unit [] = tt
all_unit (x ∷ xs) = (tt, all_unit xs)

-- two lists member by member
module _ {A B : Type 0} (R : A → B → Type 0) where
  pub both_append : (xs us : List A) (ys vs : List B) → Both R xs ys → Both R us vs → Both R (xs ++ us) (ys ++ vs)
  both_append [] us [] vs p q = q
  both_append [] us (y ∷ ys) vs p q = absurd p
  both_append (x ∷ xs) us [] vs p q = absurd p
  both_append (x ∷ xs) us (y ∷ ys) vs p q = (p.0, both_append xs us ys vs p.1 q)

  pub both_none : (xs : List A) (ys : List B) → xs ≡ [] → Both R xs ys → ys ≡ []
  both_none [] [] e p = refl
  both_none [] (y ∷ ys) e p = absurd p
  both_none (x ∷ xs) ys e p = absurd (not_empty (x ∷ xs) refl e)

  pub both_unmarked : (ms : List Bool) (xs : List A) (ys : List B) → Both R xs ys → Both R (unmarked ms xs) (unmarked ms ys)
  both_unmarked [] xs ys p = tt
  both_unmarked (m ∷ ms) [] [] p = tt
  both_unmarked (m ∷ ms) [] (y ∷ ys) p = absurd p
  both_unmarked (m ∷ ms) (x ∷ xs) [] p = absurd p
  both_unmarked (true ∷ ms) (x ∷ xs) (y ∷ ys) p = both_unmarked ms xs ys p.1
  both_unmarked (false ∷ ms) (x ∷ xs) (y ∷ ys) p = (p.0, both_unmarked ms xs ys p.1)

  -- what is made of each member, beside it
  pub both_map : (P : B → Type 0) (f : B → A) → ((y : B) → P y → R (f y) y) → (ys : List B) → All P ys → Both R (map f ys) ys
  both_map P f k [] p = tt
  both_map P f k (y ∷ ys) p = (k y p.0, both_map P f k ys p.1)

-- a relation that says less
pub both_weaken : {A B : Type 0} (R Q : A → B → Type 0) → ((x : A) (y : B) → R x y → Q x y) → (xs : List A) (ys : List B) → Both R xs ys → Both Q xs ys
both_weaken R Q f [] [] p = tt
both_weaken R Q f [] (y ∷ ys) p = absurd p
both_weaken R Q f (x ∷ xs) [] p = absurd p
both_weaken R Q f (x ∷ xs) (y ∷ ys) p = (f x y p.0, both_weaken R Q f xs ys p.1)

-- one member replaced, one more dropped
pub map-set : {A B : Type 0} (f : A → B) (xs : List A) (k : ℕ) (y : A) → map f (set xs k y) ≡ set (map f xs) k (f y)
map-set f [] k y = refl
map-set f (x ∷ xs) zero y = refl
map-set f (x ∷ xs) (suc k) y = ap (λ r. f x ∷ r) (map-set f xs k y)

pub drop_next : {A : Type 0} (n : ℕ) (x : A) (xs ys : List A) → drop n ys ≡ x ∷ xs → drop (n + 1) ys ≡ xs
drop_next n x xs ys e = sym (drop-drop 1 n ys) ∙ rw e

-- the closed frames: those kept, those discarded, and the lines of all
pub kept_append : (a b : List Closed) → kept_in (a ++ b) ≡ kept_in a ++ kept_in b
kept_append [] b = refl
kept_append (k ∷ a) b = rw (kept_append a b) (rw append_assoc)

pub discarded_append : (a b : List Closed) → discarded_in (a ++ b) ≡ discarded_in a ++ discarded_in b
discarded_append [] b = refl
discarded_append (k ∷ a) b = rw (discarded_append a b) (rw append_assoc)

pub lines_append : (a b : List Closed) → lines_closed (a ++ b) ≡ lines_closed a ++ lines_closed b
lines_append [] b = refl
lines_append (k ∷ a) b = rw (lines_append a b) (rw append_assoc)

pub all_kept : (P : Frame → Type 0) (ks : List Closed) → All (λ (k : Closed). P k.frame) ks → All P (kept_in ks)
all_kept P [] p = tt
all_kept P (k ∷ ks) p = all_append P (pick k.kept (k.frame ∷ []) []) (kept_in ks) (all_pick P k.kept k.frame p.0) (all_kept P ks p.1)

-- those that are not marked, and the marks, make up the whole
pub marks_counted : {A : Type 0} (ms : List Bool) (xs : List A) → length ms ≡ length xs → length (unmarked ms xs) + failures_in ms ≡ length xs
marks_counted [] [] e = refl
marks_counted [] (x ∷ xs) e = let z : ⊥ = omega arith in absurd z
marks_counted (m ∷ ms) [] e = let z : ⊥ = omega arith in absurd z
marks_counted (true ∷ ms) (x ∷ xs) e = omega (arith, marks_counted ms xs (omega arith))
marks_counted (false ∷ ms) (x ∷ xs) e = omega (arith, marks_counted ms xs (omega arith))

marks_onto : (ms ns : List Bool) → failures_in (reverse_aux ms ns) ≡ failures_in ms + failures_in ns
marks_onto [] ns = omega arith
marks_onto (true ∷ ms) ns = omega (arith, marks_onto ms (true ∷ ns))
marks_onto (false ∷ ms) ns = omega (arith, marks_onto ms (false ∷ ns))

pub marks_reversed : (ms : List Bool) → failures_in (reverse ms) ≡ failures_in ms
marks_reversed ms = omega (arith, marks_onto ms [])
