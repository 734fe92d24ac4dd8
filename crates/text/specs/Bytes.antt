-- Bytes: two hexadecimal digits for each, or '-' for none.
use Rattle.std.specs.Prelude.{ℕ, ◌+◌, ◌*◌, ◌%◌, ◌≡◌, Bool, ◌&&◌, ◌||◌, List, [], ◌∷◌, Option, Some, None, length, ltb, leb, eqb}
use Rattle.codec.specs.Choice.{pick}
use Rattle.text.specs.Digit.{digit_of, all_below}
use Rattle.codec.specs.Number.{over}
use Rattle.text.specs.Line.{same_of}

-- a byte for each two digits; '-' is one character and so none
abbrev pub pairs : List ℕ → List ℕ
pairs [] = []
pairs (a ∷ []) = []
pairs (a ∷ b ∷ cs) = (digit_of a * 16 + digit_of b) ∷ pairs cs

-- a word that is bytes: '-', or an even number of digits, at least two
unfoldable pub spells : List ℕ → Bool
spells w = same_of w (45 ∷ []) || (ltb 0 (length w) && eqb (length w % 2) 0 && all_below 16 w)

-- where the word is bytes and l has room, they stand at its front; else nothing changed
pub record Filled (good : Bool) (bs l l' : List ℕ) (r : Option ℕ) : Type 0 where
  pub list : l' ≡ pick (good && leb (length bs) (length l)) (over l 0 bs) l
  pub answer : r ≡ pick (good && leb (length bs) (length l)) (Some (length bs)) None
