-- What a digit is worth.
use Rattle.std.specs.Prelude.{ℕ, ◌-◌, Bool, List, Option, Some, None, ltb, leb}
use Rattle.std.specs.List.{list_all}
use Rattle.codec.specs.Choice.{pick}

-- '0' to '9', 'A' to 'F' and 'a' to 'f' are worth 0 to 15; any other byte is worth 16
unfoldable pub digit_of : ℕ → ℕ
digit_of c =
    pick (ltb c 48) 16
    (pick (leb c 57) (c - 48)
    (pick (ltb c 65) 16
    (pick (leb c 70) (c - 55)
    (pick (ltb c 97) 16
    (pick (leb c 102) (c - 87) 16)))))

-- the worth of a hexadecimal digit, and none for any other byte
unfoldable pub hex_digit_of : ℕ → Option ℕ
hex_digit_of c = pick (ltb (digit_of c) 16) (Some (digit_of c)) None

-- every byte is a digit of this base
abbrev pub all_below : ℕ → List ℕ → Bool
all_below base cs = list_all (λ c. ltb (digit_of c) base) cs
