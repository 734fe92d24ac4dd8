-- A text of at most n bytes that grows at its end.
use Rattle.std.specs.Prelude.{ℕ, ◌≡◌, List, [], ◌∷◌, ◌++◌, take}
use Rattle.text.specs.Put.{decimal_of}

-- bs stand behind d, as far as they fit
pub record Adds (n : ℕ) (d bs d' : List ℕ) : Type 0 where
  pub is : d' ≡ take n (d ++ bs)

-- a number behind a space (32)
unfoldable pub field_text : ℕ → List ℕ
field_text v = 32 ∷ decimal_of v

abbrev pub numbers_of : List ℕ → List ℕ
numbers_of [] = []
numbers_of (v ∷ vs) = field_text v ++ numbers_of vs

-- a name, numbers and a line feed (10)
unfoldable pub row_of : List ℕ → List ℕ → List ℕ
row_of name vs = name ++ numbers_of vs ++ (10 ∷ [])
