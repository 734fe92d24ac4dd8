-- Numbers: decimal, or hexadecimal after "0x".
use Rattle.std.specs.Prelude.{ℕ, ◌+◌, ◌*◌, Bool, ◌&&◌, List, [], ◌∷◌, Option, Some, None, length, get_or, drop, leb, eqb}
use Rattle.codec.specs.Choice.{pick}
use Rattle.text.specs.Digit.{digit_of, all_below}

-- the number that digits are, the highest first, after digits that are worth a
abbrev pub value : ℕ → ℕ → List ℕ → ℕ
value base a [] = a
value base a (c ∷ cs) = value base (a * base + digit_of c) cs

-- one more digit
unfoldable pub grown_of : ℕ → ℕ → ℕ → ℕ → Option ℕ
grown_of base most v d = pick (leb (v * base + d) most) (Some (v * base + d)) None

-- digits of this base after digits that are worth a: their number, unless it is more than most
unfoldable pub rest_of : ℕ → ℕ → ℕ → List ℕ → Option ℕ
rest_of base most a cs = pick (all_below base cs && leb (value base a cs) most) (Some (value base a cs)) None

-- one or more of them
unfoldable pub digits_of : ℕ → ℕ → List ℕ → Option ℕ
digits_of base most cs = pick (eqb (length cs) 0) None (rest_of base most 0 cs)

-- a word that starts "0x"
unfoldable pub hexed : List ℕ → Bool
hexed w = leb 2 (length w) && eqb (get_or w 0 0) 48 && eqb (get_or w 1 0) 120

unfoldable pub number_of : List ℕ → ℕ → Option ℕ
number_of w most = pick (hexed w) (digits_of 16 most (drop 2 w)) (digits_of 10 most w)
