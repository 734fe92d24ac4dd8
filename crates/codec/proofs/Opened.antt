-- An opened answer or a choice that is x: what follows where it went on, and where it did not. Assumes nothing.
use Prim.Native.Nat.{ℕ}
use mathlib.Core.Path.{◌≡◌, refl, ap}
use mathlib.Core.Bool.{Bool, true, false}
use native.Mathlib.Omega.{arith}
use Rattle.std.specs.Prelude.{Option, Some, None, Result, Ok, Err}
use Rattle.codec.specs.Choice.{pick, opened, then}

pub never : {G : Type 0} → ◌≡◌ {A = ℕ} 0 1 → G
never z = let w : ⊥ = omega arith in absurd w

-- an opened answer or a choice that is x: what follows where it went on, and where it did not
module _ {A G : Type 0} {x : A} where
  pub chosen : (b : Bool) (y z : A) → pick b y z ≡ x → (z ≡ x → G) → (b ≡ true → y ≡ x → G) → G
  chosen true y z e n g = g refl e
  chosen false y z e n g = n e

  pub passed : (b : Bool) (y z : A) → pick b y z ≡ x → (y ≡ x → G) → (b ≡ false → z ≡ x → G) → G
  passed true y z e n g = n e
  passed false y z e n g = g refl e

  pub in_some : {V : Type 0} (r : Option V) (k : V → A) (z : A) → opened r k z ≡ x → (z ≡ x → G) → ((v : V) → r ≡ Some v → k v ≡ x → G) → G
  in_some (Some v) k z e un g = g v refl e
  in_some None k z e un g = un e

-- the same of an answer whose refusal went straight up
pub in_ok : {V B E G : Type 0} {x : Result B E} (r : Result V E) (k : V → Result B E) → then r k ≡ x → ((why : E) → Err why ≡ x → G)
    → ((v : V) → r ≡ Ok v → k v ≡ x → G) → G
in_ok (Ok v) k e un g = g v refl e
in_ok (Err why) k e un g = un why e

-- what two equal answers hold
pub ok_is : {A E : Type 0} {a b : A} → ◌≡◌ {A = Result A E} (Ok a) (Ok b) → a ≡ b
ok_is e = cc

-- what two equal pairs hold, and two equal triples
module _ {A B : Type 0} where
  two_is : {a c : A} {b d : B} → ◌≡◌ {A = A × B} (a, b) (c, d) → (a ≡ c) × (b ≡ d)
  two_is e = (ap (λ (p : A × B). p.0) e, ap (λ (p : A × B). p.1) e)

  pub ok_two : {E : Type 0} {a c : A} {b d : B} → ◌≡◌ {A = Result (A × B) E} (Ok (a, b)) (Ok (c, d)) → (a ≡ c) × (b ≡ d)
  ok_two e = two_is (ok_is e)

  pub ok_three : {C E : Type 0} {a c : A} {b d : B} {x y : C} → ◌≡◌ {A = Result (A × B × C) E} (Ok (a, b, x)) (Ok (c, d, y))
      → (a ≡ c) × (b ≡ d) × (x ≡ y)
  ok_three {C} e =
      let q = ok_is e in
      (ap (λ (p : A × B × C). p.0) q, ap (λ (p : A × B × C). p.1) q, ap (λ (p : A × B × C). p.2) q)
