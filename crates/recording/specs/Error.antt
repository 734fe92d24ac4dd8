-- Why a field is refused, or not written, by its number (docs/RULES.md, "Recordings").
use Rattle.std.specs.Prelude.{ℕ}
use Rattle.codec.specs.Refusal.{number_of as refusal_number}
use Rattle.recording.specs.declared.error.RecordError.{RecordError}

-- 12 no room, 20 to 29 the reader's, 40 the file ends inside a field, 41 too long, 42 no start, any other as it is
abbrev pub number_of : RecordError → ℕ
number_of RecordError.Small = 12
number_of (RecordError.Frame why) = refusal_number why
number_of RecordError.Cut = 40
number_of RecordError.Long = 41
number_of RecordError.Start = 42
number_of (RecordError.Other n) = n
