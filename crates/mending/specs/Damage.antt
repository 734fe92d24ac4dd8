-- What a bad disk does to a recording whose lengths it spares (docs/RULES.md, "Mending").
use Rattle.std.specs.Prelude.{ℕ, ◌≡◌, true, List, [], ◌∷◌, ◌++◌, length, get_or}
use Rattle.recording.specs.File.{size_in, complete, first}
use Rattle.mending.specs.Copy.{kept_by}

-- x is one complete field and nothing behind it
pub record Whole (x : List ℕ) : Type 0 where
  pub there : complete x ≡ true
  pub size : size_in x ≡ length x

abbrev pub AllWhole : List (List ℕ) → Type 0
AllWhole [] = Unit
AllWhole (x ∷ xs) = Whole x × AllWhole xs

-- y is read where x was written: as many bytes, any of them changed, but the two of the length
pub record Struck (x y : List ℕ) : Type 0 where
  pub size : length y ≡ length x
  pub high : get_or y 1 0 ≡ get_or x 1 0
  pub low : get_or y 2 0 ≡ get_or x 2 0

abbrev pub AllStruck : List (List ℕ) → List (List ℕ) → Type 0
AllStruck [] [] = Unit
AllStruck [] (y ∷ ys) = ⊥
AllStruck (x ∷ xs) [] = ⊥
AllStruck (x ∷ xs) (y ∷ ys) = Struck x y × AllStruck xs ys

-- of fields one after another those that stay, each by its own bytes
abbrev pub kept_fields : List (List ℕ) → List ℕ
kept_fields [] = []
kept_fields (y ∷ ys) = kept_by (first y) y ++ kept_fields ys
