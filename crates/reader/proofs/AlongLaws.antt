-- The walk along the items does not depend on its bound, and what it gives at an item, a refusal and the end.
-- Assumes nothing.
use Prim.Native.Nat.{ℕ, zero, suc, ◌+◌, ◌-◌, ◌≤◌, ◌<◌}
use mathlib.Core.Path.{◌≡◌, refl, sym, ◌∙◌, ap}
use mathlib.Core.Bool.{Bool, true, false, ◌||◌}
use mathlib.Core.List.{List, [], ◌∷◌}
use native.Mathlib.Omega.{arith}
use lib.ListN.{length}
use lib.Dec.{eqb}
use borrow.Author.Tests.{eq-eqb, ne_eqb}
use Rattle.std.specs.Prelude.{Result, Ok, Err}
use Rattle.codec.specs.Field.{read_item, bytes_at}
use Rattle.codec.specs.Layout.{Entry}
use Rattle.codec.specs.declared.refusal.Refusal.{Refusal}
use Rattle.codec.specs.declared.field.Decoded.{Decoded}
use Rattle.codec.proofs.Inverse.{read_room}
use Rattle.reader.specs.Frame.{along, walk_of, starts_of, items_of}

module _ {A : Type 0} (done : A) (bad : Refusal → A) (more : ℕ → Decoded → A → A) (s : List ℕ) where
  fuel : (n m at : ℕ) → at ≤ length s → length s ≤ at + n → length s ≤ at + m → along done bad more n s at ≡ along done bad more m s at
  unfolding along
  fuel zero zero at h a b = refl
  fuel zero (suc m) at h a b = let e : at ≡ length s = omega arith in simp (eq-eqb at (length s) e)
  fuel (suc n) zero at h a b = let e : at ≡ length s = omega arith in simp (eq-eqb at (length s) e)
  fuel (suc n) (suc m) at h a b = go (λ next. fuel n m next) (eqb at (length s)) refl (read_item s at) refl
    where
      go : ((next : ℕ) → next ≤ length s → length s ≤ next + n → length s ≤ next + m → along done bad more n s next ≡ along done bad more m s next)
          → (t : Bool) → eqb at (length s) ≡ t → (r : Result Decoded Refusal) → read_item s at ≡ r → along done bad more (suc n) s at ≡ along done bad more (suc m) s at
      go on true e r q = simp e
      go on false e (Ok d) q =
          let r = read_room s at q in
          simp (e, q, on d.next r.1 (omega arith) (omega arith))
      go on false e (Err why) q = simp (e, q)

  at_end : (at : ℕ) → length s ≤ at → along done bad more (length s - at) s at ≡ done
  unfolding along
  at_end at h = let e : length s - at ≡ 0 = omega arith in rw e

  at_item : (at : ℕ) {d : Decoded} → at < length s → read_item s at ≡ Ok d
      → along done bad more (length s - at) s at ≡ more at d (along done bad more (length s - d.next) s d.next)
  unfolding along
  at_item at {d} h q =
      let r = read_room s at q in
      let e : length s - at ≡ suc (length s - at - 1) = omega arith in
      let n : at ≡ length s → ⊥ = λ z. omega arith in
      rw e (simp (ne_eqb at (length s) n, q, fuel (length s - at - 1) (length s - d.next) d.next r.1 (omega arith) (omega arith)))

  at-bad : (at : ℕ) {why : Refusal} → at < length s → read_item s at ≡ Err why → along done bad more (length s - at) s at ≡ bad why
  unfolding along
  at-bad at h q =
      let e : length s - at ≡ suc (length s - at - 1) = omega arith in
      let n : at ≡ length s → ⊥ = λ z. omega arith in
      rw e (simp (ne_eqb at (length s) n, q))

module _ (s : List ℕ) where
  pub walk_end : (at : ℕ) → length s ≤ at → walk_of s at ≡ Ok tt
  unfolding walk_of
  walk_end at h = at_end (Ok tt) Err (λ place d rest. rest) s at h

  pub walk_item : (at : ℕ) {d : Decoded} → at < length s → read_item s at ≡ Ok d → walk_of s at ≡ walk_of s d.next
  unfolding walk_of
  walk_item at h q = at_item (Ok tt) Err (λ place d rest. rest) s at h q

  pub walk_bad : (at : ℕ) {why : Refusal} → at < length s → read_item s at ≡ Err why → walk_of s at ≡ Err why
  unfolding walk_of
  walk_bad at h q = at-bad (Ok tt) Err (λ place d rest. rest) s at h q

  abbrev found : ℕ → ℕ → Decoded → Bool → Bool
  found place here d rest = eqb here place || rest

  pub starts_end : (place at : ℕ) → length s ≤ at → starts_of s place at ≡ eqb (length s) place
  unfolding starts_of
  starts_end place at h = at_end (eqb (length s) place) (λ why. false) (found place) s at h

  pub starts_item : (place at : ℕ) {d : Decoded} → at < length s → read_item s at ≡ Ok d
      → starts_of s place at ≡ eqb at place || starts_of s place d.next
  unfolding starts_of
  starts_item place at h q = at_item (eqb (length s) place) (λ why. false) (found place) s at h q

  pub starts-bad : (place at : ℕ) {why : Refusal} → at < length s → read_item s at ≡ Err why → starts_of s place at ≡ false
  unfolding starts_of
  starts-bad place at h q = at-bad (eqb (length s) place) (λ why. false) (found place) s at h q

  -- the place is found at an item, and else it is looked for further on
  pub starts_here : (place at : ℕ) {d : Decoded} → at < length s → at ≡ place → read_item s at ≡ Ok d
      → starts_of s place at ≡ true
  starts_here place at h e q = starts_item place at h q ∙ simp (eq-eqb at place e)

  pub starts_there : (place at : ℕ) {d : Decoded} → at < length s → (at ≡ place → ⊥) → read_item s at ≡ Ok d
      → starts_of s place at ≡ starts_of s place d.next
  starts_there place at h n q = starts_item place at h q ∙ simp (ne_eqb at place n)

  pub starts_last : (place at : ℕ) → at ≡ length s → starts_of s place at ≡ eqb at place
  starts_last place at h = starts_end place at (omega arith) ∙ ap (λ (x : ℕ). eqb x place) (sym h)

  abbrev listed : ℕ → Decoded → List Entry → List Entry
  listed here d rest = record { item = d.item; payload = bytes_at s d.start d.len } ∷ rest

  pub items_end : (at : ℕ) → length s ≤ at → items_of s at ≡ []
  unfolding items_of
  items_end at h = at_end [] (λ why. []) listed s at h

  pub items_item : (at : ℕ) {d : Decoded} → at < length s → read_item s at ≡ Ok d
      → items_of s at ≡ record { item = d.item; payload = bytes_at s d.start d.len } ∷ items_of s d.next
  unfolding items_of
  items_item at h q = at_item [] (λ why. []) listed s at h q

  pub items-bad : (at : ℕ) {why : Refusal} → at < length s → read_item s at ≡ Err why → items_of s at ≡ []
  unfolding items_of
  items-bad at h q = at-bad [] (λ why. []) listed s at h q
