-- Numbers and bytes as text.
use Rattle.std.specs.Prelude.{ℕ, zero, suc, ◌+◌, ◌/◌, ◌%◌, ◌≤◌, ◌≡◌, List, [], ◌∷◌, ◌++◌, drop, ltb}
use Rattle.codec.specs.Choice.{pick}
use Rattle.text.specs.declared.digit.Case.{Case}

-- '0' to '9' and 'a' to 'f'
unfoldable pub letter_of : ℕ → ℕ
letter_of v = pick (ltb v 10) (v + 48) (v + 87)

-- '0' to '9' and 'A' to 'F'
unfoldable pub capital_of : ℕ → ℕ
capital_of v = pick (ltb v 10) (v + 48) (v + 55)

abbrev pub written_of : Case → ℕ → ℕ
written_of Case.Lower v = letter_of v
written_of Case.Upper v = capital_of v

-- two digits for each byte
abbrev pub hexes : List ℕ → List ℕ
hexes [] = []
hexes (b ∷ bs) = letter_of (b / 16) ∷ letter_of (b % 16) ∷ hexes bs

-- and '-' for no bytes
abbrev pub hex_of : List ℕ → List ℕ
hex_of [] = 45 ∷ []
hex_of (b ∷ bs) = hexes (b ∷ bs)

-- the decimal digits of v, the highest first and at most n of them
unfoldable pub decimals : ℕ → ℕ → List ℕ
decimals zero v = []
decimals (suc n) v = pick (ltb v 10) ((v + 48) ∷ []) (decimals n (v / 10) ++ ((v % 10 + 48) ∷ []))

-- no number of 64 bits has more than 20
unfoldable pub decimal_of : ℕ → List ℕ
decimal_of v = decimals 20 v

-- bs are what a list of 20 ends with, from index r on
pub record Ends (l bs : List ℕ) (r : ℕ) : Type 0 where
  pub tail : drop r l ≡ bs
  pub most : r ≤ 20
