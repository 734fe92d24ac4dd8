-- What writing and listing make of each other.
use Rattle.std.specs.Prelude.{ℕ, ◌≡◌, Bool, true, false, List, [], ◌∷◌, ◌++◌, Result, Ok, Err, ⊤}
use Rattle.recording.specs.File.{Raw, Finding}
use Rattle.recording.specs.Write.{field_bytes, start_bytes}
use Rattle.recording.specs.declared.error.RecordError.{RecordError}
use Rattle.recording.specs.declared.field.Found.{Found}

-- what stands against a finding, if anything does
abbrev pub answer_in : Result Found RecordError → Result ⊤ RecordError
answer_in (Ok found) = Ok tt
answer_in (Err why) = Err why

-- a field that can be written: a good one with one of our tags
abbrev pub good : Result Found RecordError → Bool
good (Ok (Found.Frame h)) = true
good (Ok Found.Note) = true
good (Ok (Found.Start t)) = true
good (Ok Found.Skipped) = false
good (Err why) = false

abbrev pub AllGood : List Finding → Type 0
AllGood [] = Unit
AllGood (f ∷ fs) = (good f.found ≡ true) × AllGood fs

-- a field's bytes, and those of fields one after another
abbrev pub raw_bytes : Raw → List ℕ
raw_bytes f = field_bytes f.tag f.body

abbrev pub file_of : List Raw → List ℕ
file_of [] = []
file_of (f ∷ fs) = raw_bytes f ++ file_of fs

-- the bytes that the writer lays for what was listed
abbrev pub again_by : Result Found RecordError → List ℕ → List ℕ
again_by (Ok (Found.Frame h)) body = field_bytes 1 body
again_by (Ok Found.Note) body = field_bytes 2 body
again_by (Ok (Found.Start t)) body = field_bytes 3 (start_bytes t)
again_by (Ok Found.Skipped) body = []
again_by (Err why) body = []

abbrev pub again : Finding → List ℕ
again f = again_by f.found f.body

abbrev pub again_all : List Finding → List ℕ
again_all [] = []
again_all (f ∷ fs) = again f ++ again_all fs
