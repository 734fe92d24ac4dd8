-- Why the engine refuses (docs/RULES.md, "Answers").
use Rattle.std.specs.Prelude.{ℕ, Bool, Result, Ok, Err}
use Rattle.codec.specs.Choice.{pick}
use Rattle.framer.specs.declared.cause.Cause.{Cause}

-- the causes by their numbers
abbrev pub number_of : Cause → ℕ
number_of Cause.Unmatched = 1
number_of Cause.NoSource = 2
number_of Cause.NotStarted = 3
number_of Cause.OtherKind = 4
number_of Cause.OutOfRange = 5
number_of Cause.PayloadTooLong = 6
number_of Cause.BadTime = 7
number_of Cause.TooBig = 8
number_of Cause.BadFilter = 9
number_of Cause.NoPlace = 10
number_of Cause.NoFilter = 11
number_of Cause.ShortOutput = 12
number_of Cause.NothingWaits = 13
number_of Cause.BadSetup = 14
number_of Cause.NothingOut = 17
number_of Cause.Unsound = 19

-- the number of an answer, 0 for done
abbrev pub answer_of : {A : Type 0} → Result A Cause → ℕ
answer_of (Ok x) = 0
answer_of (Err c) = number_of c

-- a test, and what comes to it where it holds: the first that fails gives the cause
abbrev pub guard : {A : Type 0} → Bool → Cause → Result A Cause → Result A Cause
guard good cause rest = pick good rest (Err cause)

-- what is told where nothing speaks against it
abbrev pub gives : {A : Type 0} → Result Unit Cause → A → Result A Cause
gives (Ok u) x = Ok x
gives (Err c) x = Err c
