-- A text that stands in a list.
use Rattle.std.specs.Prelude.{ℕ, ◌+◌, ◌≤◌, ◌≡◌, List, length}
use Rattle.codec.specs.Number.{Laid}

-- bs, at most k of them, stand at index at, and r is the index past them
pub record Short (k : ℕ) (l : List ℕ) (at : ℕ) (bs : List ℕ) (l' : List ℕ) (r : ℕ) : Type 0 where
  pub laid : Laid l at bs l' r
  pub most : r ≤ at + k
  pub fits : at + length bs ≤ length l
  pub kept : length l' ≡ length l
