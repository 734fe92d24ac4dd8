-- The mended copy of a recording (docs/RULES.md, "Mending"): its good fields and its unknown ones, byte for byte and in order.
use Rattle.std.specs.Prelude.{ℕ, ◌+◌, ◌≡◌, Result, Ok, Err, Bool, true, false, List, [], ◌∷◌, ◌++◌, length, take, drop}
use Rattle.codec.specs.Choice.{pick}
use Rattle.recording.specs.File.{Raw, Finding, fields_of, finding_of}
use Rattle.recording.specs.declared.error.RecordError.{RecordError}
use Rattle.recording.specs.declared.field.Found.{Found}

-- a field that the copy keeps: a good one, or one whose tag is not ours
abbrev pub stays : Result Found RecordError → Bool
stays (Ok (Found.Frame h)) = true
stays (Ok Found.Note) = true
stays (Ok (Found.Start t)) = true
stays (Ok Found.Skipped) = true
stays (Err why) = false

-- how long a field is in the file: tag, length, body
abbrev pub span_of : Raw → ℕ
span_of f = 3 + length f.body

-- what the copy has of a field whose bytes are bs: all of them, or nothing
abbrev pub kept_by : Raw → List ℕ → List ℕ
kept_by f bs = pick (stays (finding_of f).found) bs []

-- along the fields at the front of s, the bytes of those that stay, as they stand there
unfoldable pub along_kept : List Raw → List ℕ → List ℕ
along_kept [] s = []
along_kept (f ∷ fs) s = kept_by f (take (span_of f) s) ++ along_kept fs (drop (span_of f) s)

-- the copy; what is left after the complete fields is dropped
unfoldable pub copy_of : List ℕ → List ℕ
copy_of s = along_kept (fields_of s) s

-- those of the findings that stay
abbrev pub stayed : List Finding → List Finding
stayed [] = []
stayed (f ∷ fs) = pick (stays f.found) (f ∷ stayed fs) (stayed fs)

-- no finding is bad
abbrev pub AllStay : List Finding → Type 0
AllStay [] = Unit
AllStay (f ∷ fs) = (stays f.found ≡ true) × AllStay fs
