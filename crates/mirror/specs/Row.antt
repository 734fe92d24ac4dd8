-- A row of the worked examples (docs/RULES.md, "Worked examples"): calls from the engine before setup, and all that they say, one
-- answer for each call.
use Rattle.std.specs.Prelude.{ℕ, List, [], ◌++◌, length, replicate}
use Rattle.codec.specs.declared.time.Time.{Time}
use Rattle.mirror.specs.Call.{Call, Said}

pub record Row : Type 0 where
  pub calls : List Call
  pub said : List Said

-- seconds and nanoseconds
abbrev pub at : ℕ → ℕ → Time
at sec nano = record { sec = sec; nano = nano }

-- an output to be lent
abbrev pub room : ℕ → List ℕ
room n = replicate n 0xee

-- done; done with a number beside it; refused
abbrev pub ok : Said
ok = record { answer = 0; number = 0; output = [] }

abbrev pub number : ℕ → Said
number n = record { answer = 0; number = n; output = [] }

abbrev pub refused : ℕ → Said
refused n = record { answer = n; number = 0; output = [] }

-- a frame taken, its length beside it, into an output that is k bytes longer
abbrev pub taken : List ℕ → ℕ → Said
taken bytes k = record { answer = 0; number = length bytes; output = bytes ++ room k }
