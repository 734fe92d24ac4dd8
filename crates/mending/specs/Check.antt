-- The lines of a checker (docs/SCRIPT.md, "The check"). Numbers below are the characters of the names.
use Rattle.std.specs.Prelude.{ℕ, ◌+◌, min, Result, Ok, Err, Bool, not, List, [], ◌∷◌, ◌++◌, length, eqb}
use Rattle.codec.specs.Choice.{pick, bit}
use Rattle.text.specs.Draft.{row_of}
use Rattle.recording.specs.File.{Finding, left_of, findings_of, skips}
use Rattle.recording.specs.Trip.{good}
use Rattle.recording.specs.Error.{number_of}
use Rattle.recording.specs.declared.error.RecordError.{RecordError}
use Rattle.recording.specs.declared.field.Found.{Found}
use Rattle.mending.specs.Copy.{stays}
use Rattle.mending.specs.declared.check.Tally.{Tally}

-- "good TAG LENGTH"
abbrev pub good_line : ℕ → ℕ → List ℕ
good_line tag n = row_of (103 ∷ 111 ∷ 111 ∷ 100 ∷ []) (tag ∷ n ∷ [])

-- "bad TAG ANSWER LENGTH"
abbrev pub bad_line : ℕ → ℕ → ℕ → List ℕ
bad_line tag answer n = row_of (98 ∷ 97 ∷ 100 ∷ []) (tag ∷ answer ∷ n ∷ [])

-- "unknown TAG LENGTH"
abbrev pub unknown_line : ℕ → ℕ → List ℕ
unknown_line tag n = row_of (117 ∷ 110 ∷ 107 ∷ 110 ∷ 111 ∷ 119 ∷ 110 ∷ []) (tag ∷ n ∷ [])

-- the name of a field that is not bad
abbrev pub name_of : Found → List ℕ
name_of (Found.Frame h) = 103 ∷ 111 ∷ 111 ∷ 100 ∷ []
name_of Found.Note = 103 ∷ 111 ∷ 111 ∷ 100 ∷ []
name_of (Found.Start t) = 103 ∷ 111 ∷ 111 ∷ 100 ∷ []
name_of Found.Skipped = 117 ∷ 110 ∷ 107 ∷ 110 ∷ 111 ∷ 119 ∷ 110 ∷ []

-- of a field, by what it is found to be
abbrev pub found_line : ℕ → ℕ → Result Found RecordError → List ℕ
found_line tag n (Ok (Found.Frame h)) = good_line tag n
found_line tag n (Ok Found.Note) = good_line tag n
found_line tag n (Ok (Found.Start t)) = good_line tag n
found_line tag n (Ok Found.Skipped) = unknown_line tag n
found_line tag n (Err why) = bad_line tag (number_of why) n

abbrev pub finding_line : Finding → List ℕ
finding_line f = found_line f.tag f.size f.found

-- "rest 40 BYTES", of the bytes that are left after the complete fields; no line where there are none
unfoldable pub rest_text : ℕ → List ℕ
rest_text n = pick (eqb n 0) [] (row_of (114 ∷ 101 ∷ 115 ∷ 116 ∷ []) (40 ∷ n ∷ []))

-- "fields GOOD BAD UNKNOWN"
abbrev pub fields_line : Tally → ℕ → List ℕ
fields_line t unknown = row_of (102 ∷ 105 ∷ 101 ∷ 108 ∷ 100 ∷ 115 ∷ []) (t.good ∷ t.bad ∷ unknown ∷ [])

-- how many findings there are of a sort
abbrev pub count_of : (Result Found RecordError → Bool) → List Finding → ℕ
count_of sort [] = 0
count_of sort (f ∷ fs) = bit (sort f.found) + count_of sort fs

abbrev pub bad : Result Found RecordError → Bool
bad found = not (stays found)

-- every count stops at 4,294,967,295, as that of the skipped fields does
abbrev pub most : ℕ
most = 4294967295

abbrev pub tally_of : List Finding → Tally
tally_of fs = record { good = min (count_of good fs) most; bad = min (count_of bad fs) most }

-- one finding more
abbrev pub tallied : Tally → Result Found RecordError → Tally
tallied t found = record { good = min (t.good + bit (good found)) most; bad = min (t.bad + bit (bad found)) most }

-- all that is written: a line for each field, then what is left, then how many there were
abbrev pub report_of : List Finding → ℕ → Tally → ℕ → List ℕ
report_of [] rest t unknown = rest_text rest ++ fields_line t unknown
report_of (f ∷ fs) rest t unknown = finding_line f ++ report_of fs rest t unknown

unfoldable pub checked_of : List ℕ → List ℕ
checked_of s = report_of (findings_of s) (length (left_of s)) (tally_of (findings_of s)) (min (skips (findings_of s)) most)
