-- A worked recording, by computing (docs/RULES.md, "Mending").
use Prim.Native.Nat.{ℕ}
use mathlib.Core.Path.{◌≡◌, refl}
use mathlib.Core.Bool.{false}
use mathlib.Core.List.{List, [], ◌∷◌, ◌++◌}
use Rattle.codec.specs.Number.{word, word_at, fits}
use Rattle.codec.specs.Header.{read_header, time_at}
use Rattle.reader.specs.Frame.{judge_of}
use Rattle.std.specs.Prelude.{Err}
use Rattle.recording.specs.declared.error.RecordError.{RecordError}
use Rattle.recording.specs.File.{complete, along, fields_of, left_of, frame_found, note_found, start_found, short_of, verdict, keeps, findings_of}
use Rattle.text.specs.Put.{decimals, decimal_of}
use Rattle.text.specs.Draft.{field_text, row_of}
use Rattle.mending.specs.Copy.{stays, along_kept, copy_of}
use Rattle.mending.specs.Check.{good_line, bad_line, unknown_line, found_line, rest_text, fields_line, tallied, checked_of}

-- a note "ok", a frame of one byte, a tag 9 of one byte, a start of 1,000,000,000 ns, an empty note, and 2 of the 3 bytes before a body
abbrev pub damaged : List ℕ
damaged =
    (2 ∷ 0 ∷ 2 ∷ 111 ∷ 107 ∷ []) ++ (1 ∷ 0 ∷ 1 ∷ 1 ∷ []) ++ (9 ∷ 0 ∷ 1 ∷ 7 ∷ [])
    ++ (3 ∷ 0 ∷ 10 ∷ 0 ∷ 0 ∷ 0 ∷ 0 ∷ 0 ∷ 0 ∷ 59 ∷ 154 ∷ 202 ∷ 0 ∷ []) ++ (2 ∷ 0 ∷ 0 ∷ []) ++ (1 ∷ 0 ∷ [])

-- the note, the tag 9 and the empty note stay
pub copy_vector : copy_of damaged ≡ (2 ∷ 0 ∷ 2 ∷ 111 ∷ 107 ∷ []) ++ (9 ∷ 0 ∷ 1 ∷ 7 ∷ []) ++ (2 ∷ 0 ∷ 0 ∷ [])
unfolding copy_of along_kept fields_of along complete verdict frame_found note_found start_found short_of time_at keeps word word_at fits judge_of read_header
copy_vector = refl

pub check_vector : checked_of damaged
    ≡ good_line 2 2 ++ bad_line 1 20 1 ++ unknown_line 9 1 ++ bad_line 3 42 10 ++ good_line 2 0 ++ rest_text 2 ++ fields_line (record { good = 2; bad = 2 }) 1
unfolding checked_of findings_of fields_of left_of along complete verdict frame_found note_found start_found short_of time_at keeps word word_at fits judge_of read_header rest_text row_of field_text decimal_of decimals
check_vector = refl

-- "bad 1 20 1"
pub line_vector : bad_line 1 20 1 ≡ 98 ∷ 97 ∷ 100 ∷ 32 ∷ 49 ∷ 32 ∷ 50 ∷ 48 ∷ 32 ∷ 49 ∷ 10 ∷ []
unfolding row_of field_text decimal_of decimals
line_vector = refl

-- "rest 40 2", and no line where nothing is left
pub rest_vector : rest_text 2 ≡ 114 ∷ 101 ∷ 115 ∷ 116 ∷ 32 ∷ 52 ∷ 48 ∷ 32 ∷ 50 ∷ 10 ∷ []
unfolding rest_text row_of field_text decimal_of decimals
rest_vector = refl

pub no_rest_vector : rest_text 0 ≡ []
unfolding rest_text
no_rest_vector = refl

-- a refusal of any other number, as a caller may hand one in: "bad 2 77 3", counted as bad, and not kept
pub other_line_vector : found_line 2 3 (Err (RecordError.Other 77)) ≡ 98 ∷ 97 ∷ 100 ∷ 32 ∷ 50 ∷ 32 ∷ 55 ∷ 55 ∷ 32 ∷ 51 ∷ 10 ∷ []
unfolding row_of field_text decimal_of decimals
other_line_vector = refl

pub other_count_vector : tallied (record { good = 4; bad = 1 }) (Err (RecordError.Other 77)) ≡ record { good = 4; bad = 2 }
other_count_vector = refl

pub other_copy_vector : stays (Err (RecordError.Other 77)) ≡ false
other_copy_vector = refl
