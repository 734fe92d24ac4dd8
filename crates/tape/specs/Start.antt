-- From which start the items of a recording count (docs/RULES.md, "Where on the tape").
use Rattle.std.specs.Prelude.{◌≡◌, Bool, true, false, List, [], ◌∷◌, Option, Some, Result, Ok, Err}
use Rattle.codec.specs.declared.time.Time.{Time}
use Rattle.recording.specs.File.{Finding}
use Rattle.recording.specs.declared.error.RecordError.{RecordError}
use Rattle.recording.specs.declared.field.Found.{Found}

-- after a field: a good start takes the place of the earlier one, and nothing else does
abbrev pub after_of : Option Time → Result Found RecordError → Option Time
after_of m (Ok (Found.Frame h)) = m
after_of m (Ok Found.Note) = m
after_of m (Ok (Found.Start t)) = Some t
after_of m (Ok Found.Skipped) = m
after_of m (Err why) = m

-- after some findings
abbrev pub after_all : Option Time → List Finding → Option Time
after_all m [] = m
after_all m (f ∷ fs) = after_all (after_of m f.found) fs

-- no good start among them
abbrev pub starts : Result Found RecordError → Bool
starts (Ok (Found.Frame h)) = false
starts (Ok Found.Note) = false
starts (Ok (Found.Start t)) = true
starts (Ok Found.Skipped) = false
starts (Err why) = false

abbrev pub NoStart : List Finding → Type 0
NoStart [] = Unit
NoStart (f ∷ fs) = (starts f.found ≡ false) × NoStart fs
