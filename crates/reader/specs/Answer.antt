-- The reader's answers by their numbers: 0 for done, 12 for an output too short, 20 to 30 for the refusals.
-- Other numbers beside a refusal are 0.
use Rattle.std.specs.Prelude.{ℕ, Option, Result, Ok, Err}
use Rattle.std.specs.Result.{result_unwrap_or}
use Rattle.codec.specs.Refusal.{number_of}
use Rattle.codec.specs.declared.header.Header.{Header}
use Rattle.codec.specs.declared.refusal.Refusal.{Refusal}
use Rattle.reader.specs.declared.place.Stepped.{Stepped}
use Rattle.reader.specs.declared.copy.RewriteError.{RewriteError}

-- 0 for done, else the number of the error
abbrev pub number_by : {T E : Type 0} → (E → ℕ) → Result T E → ℕ
number_by number (Ok x) = 0
number_by number (Err why) = number why

-- 12, or the refusal's number
abbrev pub rewrite_error_number : RewriteError → ℕ
rewrite_error_number RewriteError.Small = 12
rewrite_error_number (RewriteError.Frame why) = number_of why

abbrev pub judged_number : Result Header Refusal → ℕ
judged_number r = number_by number_of r

abbrev pub judged_header : Result Header Refusal → Header
judged_header r = result_unwrap_or r (record { sequence = 0; time = record { sec = 0; nano = 0 }; length = 0 })

abbrev pub stepped_number : Result (Option Stepped) Refusal → ℕ
stepped_number r = number_by number_of r

abbrev pub rewritten_number : Result ℕ RewriteError → ℕ
rewritten_number r = number_by rewrite_error_number r

abbrev pub rewritten_length : Result ℕ RewriteError → ℕ
rewritten_length r = result_unwrap_or r 0
