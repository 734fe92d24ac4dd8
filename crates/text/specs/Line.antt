-- A line: its comment and trailing spaces cut, and its words.
use Rattle.std.specs.Prelude.{ℕ, ◌-◌, ◌≤◌, ◌≡◌, Bool, List, [], length, get_or, take, eqb}
use Rattle.std.specs.List.{position_or_len, suffix_len, slice_split}
use Rattle.std.specs.Str.{bytes_eq}

-- how many elements stand before the first b
abbrev pub ahead : ℕ → List ℕ → ℕ
ahead b s = position_or_len (λ x. eqb x b) s

pub record Found (s : List ℕ) (b r : ℕ) : Type 0 where
  pub is : r ≡ ahead b s
  pub most : r ≤ length s

-- a line without its trailing spaces
abbrev pub trimmed : List ℕ → List ℕ
trimmed l = take (length l - suffix_len (λ x. eqb x 32) l) l

-- a line without its comment, which '#' starts, and then without its trailing spaces
unfoldable pub kept_of : List ℕ → List ℕ
kept_of l = trimmed (take (ahead 35 l) l)

-- the words between single spaces
abbrev pub split : List ℕ → List (List ℕ)
split s = slice_split (λ x. eqb x 32) s

unfoldable pub words_of : List ℕ → ℕ
words_of l = length (split l)

-- the word of number k from 0, and nothing past the last
unfoldable pub word_of : List ℕ → ℕ → List ℕ
word_of l k = get_or (split l) k []

-- whether two texts are the same
abbrev pub same_of : List ℕ → List ℕ → Bool
same_of a b = bytes_eq a b
