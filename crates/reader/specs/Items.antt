-- One call of `next` on the items of a frame.
use Rattle.std.specs.Prelude.{ℕ, ◌≡◌, List, length, ltb, Option, Some, None, Result, Ok}
use Rattle.codec.specs.Choice.{pick, then}
use Rattle.codec.specs.Field.{read_item}
use Rattle.codec.specs.declared.field.Decoded.{Decoded}
use Rattle.codec.specs.declared.refusal.Refusal.{Refusal}
use Rattle.reader.specs.Frame.{resolved}

-- what was read at a place, with that place
abbrev pub placed : ℕ → Result Decoded Refusal → Result (ℕ × Decoded) Refusal
placed at r = then r (λ d. Ok (at, d))

-- the item at a place, or why there is none; nothing at the end
abbrev pub given_of : List ℕ → ℕ → Option (Result (ℕ × Decoded) Refusal)
given_of s at = pick (ltb at (length s)) (Some (placed at (read_item s at))) None

-- on to where the next item starts, and after a refusal to the end
abbrev pub left_of : List ℕ → ℕ → ℕ
left_of s at = pick (ltb at (length s)) (resolved (read_item s at) (λ d. d.next) (λ why. length s)) at

-- the call on the items of s from `at` on gave r, and left those from `to` on
pub record Gives (s : List ℕ) (at : ℕ) (r : Option (Result (ℕ × Decoded) Refusal)) (to : ℕ) : Type 0 where
  pub given : r ≡ given_of s at
  pub left : to ≡ left_of s at
