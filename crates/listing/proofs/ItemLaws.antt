-- The two ways in which the line of an item ends. Assumes nothing.
use Prim.Native.Nat.{ℕ, ◌+◌, ◌*◌}
use mathlib.Core.Path.{◌≡◌, refl}
use mathlib.Core.List.{List, [], ◌∷◌, ◌++◌, append_assoc}
use native.Mathlib.Omega.{arith}
use lib.ListN.{length, length-append}
use Rattle.std.specs.Prelude.{Option}
use Rattle.codec.specs.Choice.{pick}
use Rattle.codec.specs.declared.time.Time.{Time}
use Rattle.codec.specs.declared.item.Item.{Item}
use Rattle.listing.specs.Line.{fixed_of, spread, bytes_text, front_text, item_line}
use Rattle.listing.proofs.SpreadLaws.{pairs-length}

no_bytes : (bs : List ℕ) → length bs ≡ 0 → bytes_text bs ≡ 45 ∷ []
no_bytes [] e = refl
no_bytes (b ∷ bs) e = absurd (omega arith)

some_bytes : (bs : List ℕ) → (length bs ≡ 0 → ⊥) → bytes_text bs ≡ spread (fixed_of 16 2) bs
some_bytes [] h = absurd (h refl)
some_bytes (b ∷ bs) h = refl

-- cs is what the item carries
module _ (m : Option Time) (t : Time) (it : Item) (bs cs : List ℕ) (e : cs ≡ pick it.carries bs []) where
  pub item_bare : length cs ≡ 0 → item_line m t it bs ≡ front_text m t it (length bs) ++ (45 ∷ 10 ∷ [])
  unfolding item_line
  item_bare h = rw (← e, no_bytes cs h) (append_assoc (front_text m t it (length bs)) (45 ∷ []) (10 ∷ []))

  pub item_loaded : (length cs ≡ 0 → ⊥) → item_line m t it bs ≡ front_text m t it (length bs) ++ spread (fixed_of 16 2) cs ++ (10 ∷ [])
  unfolding item_line
  item_loaded h = rw (← e, some_bytes cs h)

pub ended_length : (xs bs : List ℕ) → length (xs ++ spread (fixed_of 16 2) bs ++ (10 ∷ [])) ≡ length xs + 2 * length bs + 1
ended_length xs bs = simp (length-append, pairs-length)
