-- Worked positions (docs/RULES.md, "Where on the tape"): a start, a time and the position, row by row.
use Rattle.std.specs.Prelude.{ℕ, List, [], ◌∷◌, map, ℤ, pos, negsuc, Result, Ok, Err}
use Rattle.codec.specs.declared.time.Time.{Time}
use Rattle.tape.specs.Sample.{position_of}
use Rattle.tape.specs.declared.sample.TooFar.{TooFar}

pub record Row : Type 0 where
  pub start : Time
  pub time : Time
  pub placed : Result ℤ TooFar

abbrev row : ℕ → ℕ → ℕ → ℕ → Result ℤ TooFar → Row
row s n t m p = record { start = record { sec = s; nano = n }; time = record { sec = t; nano = m }; placed = p }

abbrev pub table : List Row
table =
    -- the start itself, and the nanoseconds around the first samples, both ways
    row 1700000000 300000000 1700000000 300000000 (Ok (pos 0))
    ∷ row 1700000000 300000000 1700000000 299999999 (Ok (negsuc 0))
    ∷ row 1700000000 300000000 1700000000 300000001 (Ok (pos 0))
    ∷ row 1700000000 300000000 1700000000 300020833 (Ok (pos 0))
    ∷ row 1700000000 300000000 1700000000 300020834 (Ok (pos 1))
    ∷ row 1700000000 300000000 1700000000 299979167 (Ok (negsuc 0))
    ∷ row 1700000000 300000000 1700000000 299979166 (Ok (negsuc 1))
    ∷ row 1700000000 300000000 1700000000 300041666 (Ok (pos 1))
    ∷ row 1700000000 300000000 1700000000 300041667 (Ok (pos 2))
    ∷ row 1700000000 300000000 1700000000 299958334 (Ok (negsuc 1))
    ∷ row 1700000000 300000000 1700000000 299958333 (Ok (negsuc 2))
    -- three samples, a whole number of nanoseconds
    ∷ row 1700000000 300000000 1700000000 300062500 (Ok (pos 3))
    ∷ row 1700000000 300000000 1700000000 300062499 (Ok (pos 2))
    ∷ row 1700000000 300000000 1700000000 299937500 (Ok (negsuc 2))
    ∷ row 1700000000 300000000 1700000000 299937499 (Ok (negsuc 3))
    -- exactly 24 hours, and a nanosecond more, both ways
    ∷ row 1700000000 300000000 1700086400 300000000 (Ok (pos 4147200000))
    ∷ row 1700000000 300000000 1700086400 300000001 (Err record {})
    ∷ row 1700000000 300000000 1699913600 300000000 (Ok (negsuc 4147199999))
    ∷ row 1700000000 300000000 1699913600 299999999 (Err record {})
    -- a second's edge
    ∷ row 5 999999999 6 0 (Ok (pos 0))
    ∷ row 5 999979167 6 0 (Ok (pos 0))
    ∷ row 5 999979166 6 0 (Ok (pos 1))
    ∷ row 6 0 5 999999999 (Ok (negsuc 0))
    ∷ row 6 0 5 999979166 (Ok (negsuc 1))
    ∷ row 6 10000 5 999989166 (Ok (negsuc 1))
    -- the last second of a header, and an item that runs past it
    ∷ row 281474976710655 0 281474976710655 0 (Ok (pos 0))
    ∷ row 281474976710655 0 281474976710655 999999999 (Ok (pos 47999))
    ∷ row 281474976710655 0 281474976710656 0 (Ok (pos 48000))
    ∷ row 281474976710655 999999999 281474976710655 0 (Ok (negsuc 47999))
    ∷ row 281474976710655 999999999 281474976710656 655349999 (Ok (pos 31456))
    -- times out of range, by their count of nanoseconds
    ∷ row 0 0 0 4294967295 (Ok (pos 206158))
    ∷ row 18446744073709551615 4294967295 18446744073709551615 0 (Ok (negsuc 206158))
    ∷ row 0 4294967295 4 294967295 (Ok (pos 0))
    ∷ row 0 0 86396 4294967295 (Err record {})
    ∷ row 0 0 18446744073709551615 4294967295 (Err record {})
    ∷ row 18446744073709551615 4294967295 0 0 (Err record {})
    ∷ []

-- what the definition gives for each row, and what it should be
abbrev pub given : List (Result ℤ TooFar)
given = map (λ (r : Row). position_of r.start r.time) table

abbrev pub wanted : List (Result ℤ TooFar)
wanted = map (λ (r : Row). r.placed) table
