-- What a call of `next` on the items of a frame gave. Assumes nothing.
use Prim.Native.Nat.{ℕ, ◌≤◌, ◌<◌}
use mathlib.Core.Path.{◌≡◌, refl, sym, ◌∙◌, ap}
use mathlib.Core.Bool.{Bool, true, false}
use mathlib.Core.List.{List}
use lib.ListN.{length}
use lib.Dec.{ltb}
use borrow.Author.Tests.{ltb-true, ltb-false}
use Rattle.std.specs.Prelude.{Option, Some, None, Result, Ok, Err}
use Rattle.codec.specs.Choice.{pick}
use Rattle.codec.specs.Field.{read_item}
use Rattle.codec.specs.declared.field.Decoded.{Decoded}
use Rattle.codec.specs.declared.refusal.Refusal.{Refusal}
use Rattle.codec.proofs.Opened.{never, ok_two}
use Rattle.reader.specs.Frame.{resolved}
use Rattle.reader.specs.Items.{placed, Gives}

abbrev Same : Option (Result (ℕ × Decoded) Refusal) → Option (Result (ℕ × Decoded) Refusal) → Type 0
Same x y = x ≡ y

-- an item: it was read at the place where the iterator was, and the next one is to be read where it ends
pub record GaveItem (s : List ℕ) (at place : ℕ) (d : Decoded) (to : ℕ) : Type 0 where
  pub inside : at < length s
  pub here : place ≡ at
  pub read : read_item s at ≡ Ok d
  pub on : to ≡ d.next

pub record GaveRefusal (s : List ℕ) (at : ℕ) (why : Refusal) : Type 0 where
  pub inside : at < length s
  pub read : read_item s at ≡ Err why

module _ {s : List ℕ} {at to : ℕ} where
  pub gave_item : {place : ℕ} {d : Decoded} → Gives s at (Some (Ok (place, d))) to → GaveItem s at place d to
  gave_item {place} {d} g = go (ltb at (length s)) refl (read_item s at) refl g.given g.left
    where
      go : (b : Bool) → ltb at (length s) ≡ b → (r : Result Decoded Refusal) → read_item s at ≡ r
          → Same (Some (Ok (place, d))) (pick b (Some (placed at r)) None)
          → to ≡ pick b (resolved r (λ d. d.next) (λ why. length s)) at → GaveItem s at place d to
      go true e (Ok x) q f h =
          let k : ◌≡◌ {A = Result (ℕ × Decoded) Refusal} (Ok (place, d)) (Ok (at, x)) = cc in
          let y = ok_two k in
          record { inside = ltb-true at (length s) e; here = y.0; read = q ∙ ap Ok (sym y.1); on = h ∙ ap (λ (d : Decoded). d.next) (sym y.1) }
      go true e (Err why) q f h = never (cc)
      go false e r q f h = never (cc)

  pub gave_refusal : {why : Refusal} → Gives s at (Some (Err why)) to → GaveRefusal s at why
  gave_refusal {why} g = go (ltb at (length s)) refl (read_item s at) refl g.given
    where
      go : (b : Bool) → ltb at (length s) ≡ b → (r : Result Decoded Refusal) → read_item s at ≡ r
          → Same (Some (Err why)) (pick b (Some (placed at r)) None) → GaveRefusal s at why
      go true e (Ok x) q f = never (cc)
      go true e (Err y) q f = let z : y ≡ why = cc in record { inside = ltb-true at (length s) e; read = q ∙ ap Err z }
      go false e r q f = never (cc)

  pub gave_none : Gives s at None to → length s ≤ at
  gave_none g = go (ltb at (length s)) refl g.given
    where
      go : (b : Bool) → ltb at (length s) ≡ b → Same None (pick b (Some (placed at (read_item s at))) None) → length s ≤ at
      go true e f = never (cc)
      go false e f = ltb-false at (length s) e
