-- The sources of a setup line.
use Rattle.std.specs.Prelude.{ℕ, ◌≡◌, Bool, true, false, List, [], ◌∷◌, Option, Some, None, length, take}
use Rattle.std.proofs.lemmas.List.Edits.{sets}
use Rattle.codec.specs.Choice.{pick, opened}
use Rattle.script.specs.Word.{narrow_of}

-- every word is a number
abbrev pub all_numbers : List (List ℕ) → Bool
all_numbers [] = true
all_numbers (w ∷ ws) = opened (narrow_of w) (λ v. all_numbers ws) false

-- the numbers before the first word that is none
abbrev pub numbers_of : List (List ℕ) → List ℕ
numbers_of [] = []
numbers_of (w ∷ ws) = opened (narrow_of w) (λ v. v ∷ numbers_of ws) []

-- at most 18 numbers stand at the front, up to the first word that is none; where there is none such, r is how many stand there
pub record Gathered (ws : List (List ℕ)) (l l' : List ℕ) (r : Option ℕ) : Type 0 where
  pub list : l' ≡ sets l 0 (take 18 (numbers_of ws))
  pub answer : r ≡ pick (all_numbers ws) (Some (length (take 18 (numbers_of ws)))) None
