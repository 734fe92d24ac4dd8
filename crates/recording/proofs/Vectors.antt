-- Worked recordings, by computing (docs/RULES.md, "Recordings").
use Prim.Native.Nat.{ℕ}
use mathlib.Core.Path.{◌≡◌, refl}
use mathlib.Core.List.{List, [], ◌∷◌, ◌++◌}
use Rattle.recording.specs.File.{listing_of, complete, along, fields_of, left_of, frame_found, note_found, short_of, start_found, verdict, keeps, findings_of}
use Rattle.recording.specs.Error.{number_of}
use Rattle.recording.specs.declared.error.RecordError.{RecordError}
use Rattle.recording.specs.declared.field.Found.{Found}
use Rattle.std.specs.Prelude.{Ok, Err}
use Rattle.codec.specs.Number.{word, word_at, fits}
use Rattle.codec.specs.Header.{read_header, time_at}
use Rattle.codec.specs.declared.refusal.Refusal.{Refusal}
use Rattle.reader.specs.Frame.{judge_of}

-- an empty file
pub empty : listing_of [] ≡ record { findings = []; answer = Ok tt; skipped = 0 }
unfolding listing_of findings_of fields_of left_of along
empty = refl

-- a note "ok", a tag 9 of one byte, an empty note, a start at 5 s and 1 ns, then a frame field of which 3 of 5 bytes are there
abbrev pub small : List ℕ
small =
    (2 ∷ 0 ∷ 2 ∷ 111 ∷ 107 ∷ []) ++ (9 ∷ 0 ∷ 1 ∷ 7 ∷ []) ++ (2 ∷ 0 ∷ 0 ∷ [])
    ++ (3 ∷ 0 ∷ 10 ∷ 0 ∷ 0 ∷ 0 ∷ 0 ∷ 0 ∷ 5 ∷ 0 ∷ 0 ∷ 0 ∷ 1 ∷ []) ++ (1 ∷ 0 ∷ 5 ∷ 1 ∷ 2 ∷ 3 ∷ [])

pub small_lists : listing_of small
    ≡ record {
      findings =
          record { tag = 2; size = 2; found = Ok Found.Note; body = 111 ∷ 107 ∷ [] }
          ∷ record { tag = 9; size = 1; found = Ok Found.Skipped; body = [] }
          ∷ record { tag = 2; size = 0; found = Ok Found.Note; body = [] }
          ∷ record { tag = 3; size = 10; found = Ok (Found.Start (record { sec = 5; nano = 1 })); body = 0 ∷ 0 ∷ 0 ∷ 0 ∷ 0 ∷ 5 ∷ 0 ∷ 0 ∷ 0 ∷ 1 ∷ [] }
          ∷ [];
      answer = Err RecordError.Cut;
      skipped = 1;
    }
unfolding listing_of findings_of fields_of left_of along complete verdict note_found short_of start_found time_at keeps word word_at fits
small_lists = refl

-- refusals: a frame of four bytes is too short, a start of nine bytes, a start of 1,000,000,000 ns; the next field is judged as if alone
pub refused_list : listing_of ((1 ∷ 0 ∷ 4 ∷ 1 ∷ 0 ∷ 0 ∷ 0 ∷ []) ++ (3 ∷ 0 ∷ 9 ∷ 0 ∷ 0 ∷ 0 ∷ 0 ∷ 0 ∷ 0 ∷ 0 ∷ 0 ∷ 0 ∷ [])
    ++ (3 ∷ 0 ∷ 10 ∷ 0 ∷ 0 ∷ 0 ∷ 0 ∷ 0 ∷ 0 ∷ 59 ∷ 154 ∷ 202 ∷ 0 ∷ []) ++ (2 ∷ 0 ∷ 1 ∷ 33 ∷ []))
    ≡ record {
      findings =
          record { tag = 1; size = 4; found = Err (RecordError.Frame Refusal.Short); body = 1 ∷ 0 ∷ 0 ∷ 0 ∷ [] }
          ∷ record { tag = 3; size = 9; found = Err RecordError.Start; body = [] }
          ∷ record { tag = 3; size = 10; found = Err RecordError.Start; body = 0 ∷ 0 ∷ 0 ∷ 0 ∷ 0 ∷ 0 ∷ 59 ∷ 154 ∷ 202 ∷ 0 ∷ [] }
          ∷ record { tag = 2; size = 1; found = Ok Found.Note; body = 33 ∷ [] }
          ∷ [];
      answer = Ok tt;
      skipped = 0;
    }
unfolding listing_of findings_of fields_of left_of along complete verdict frame_found note_found short_of start_found time_at keeps word word_at fits judge_of read_header
refused_list = refl

-- lengths: 1,472 is a note and 1,473 is not, whatever the bytes; a frame of 1,473 bytes is 41 and never read; a start of 1,473 bytes is 42
pub long_note : verdict 2 1472 [] ≡ Ok Found.Note
unfolding verdict note_found short_of
long_note = refl

pub longer_note : verdict 2 1473 [] ≡ Err RecordError.Long
unfolding verdict note_found short_of
longer_note = refl

pub longer_frame : (body : List ℕ) → verdict 1 1473 body ≡ Err RecordError.Long
unfolding verdict frame_found short_of
longer_frame body = refl

pub longer_start : (body : List ℕ) → verdict 3 1473 body ≡ Err RecordError.Start
unfolding verdict start_found
longer_start body = refl

-- a field of 1,473 bytes that the end cuts short gets 40 only
pub cut_only : listing_of (1 ∷ 5 ∷ 193 ∷ 0 ∷ []) ≡ record { findings = []; answer = Err RecordError.Cut; skipped = 0 }
unfolding listing_of findings_of fields_of left_of along complete
cut_only = refl

-- a number that none of the others has is told as it is
pub other_number : number_of (RecordError.Other 77) ≡ 77
other_number = refl
