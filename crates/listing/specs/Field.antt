-- The lines of a field, one after another, in an output that may have no room for one.
use Rattle.std.specs.Prelude.{ℕ, ◌+◌, Option, Result, Ok, Err, List, [], ◌∷◌, ◌++◌, map, length, take}
use Rattle.codec.specs.Choice.{pick}
use Rattle.codec.specs.Number.{over, fits}
use Rattle.codec.specs.Time.{recovered_of}
use Rattle.codec.specs.Layout.{Entry}
use Rattle.codec.specs.declared.time.Time.{Time}
use Rattle.reader.specs.Frame.{items_of}
use Rattle.recording.specs.Error.{number_of}
use Rattle.recording.specs.declared.error.RecordError.{RecordError}
use Rattle.recording.specs.declared.field.Found.{Found}
use Rattle.recording.specs.declared.field.Field.{Field}
use Rattle.listing.specs.Line.{frame_line, item_line, note_line, start_line, refused_line, skipped_line}

-- an item of a frame with this header time
abbrev pub entry_line : Option Time → Time → Entry → List ℕ
entry_line m t e = item_line m (recovered_of t e.item.offset.0) e.item e.payload

-- the items of a frame from a place on, in order
unfoldable pub item_lines : Option Time → Time → List ℕ → ℕ → List (List ℕ)
item_lines m t s at = map (entry_line m t) (items_of s at)

-- the header's line and then the items'; of everything else one line
abbrev pub good_lines : Option Time → ℕ → ℕ → Found → List ℕ → List (List ℕ)
good_lines m tag n (Found.Frame h) body = frame_line h ∷ item_lines m h.time body 14
good_lines m tag n Found.Note body = note_line body ∷ []
good_lines m tag n (Found.Start t) body = start_line t ∷ []
good_lines m tag n Found.Skipped body = skipped_line tag n ∷ []

abbrev pub found_lines : Option Time → ℕ → ℕ → Result Found RecordError → List ℕ → List (List ℕ)
found_lines m tag n (Ok found) body = good_lines m tag n found body
found_lines m tag n (Err why) body = refused_line tag (number_of why) ∷ []

-- the body is the front of the buffer
abbrev pub field_lines : Option Time → Field → List ℕ → List (List ℕ)
field_lines m f buffer = found_lines m f.tag f.length f.found (take f.length buffer)

-- an output, and where writing goes on in it
pub record Text : Type 0 where
  pub bytes : List ℕ
  pub at : ℕ

-- a line is written where it fits, and else left out
unfoldable pub with : Text → List ℕ → Text
with t line = pick (fits t.bytes t.at (length line)) (record { bytes = over t.bytes t.at line; at = t.at + length line }) t

abbrev pub with_all : Text → List (List ℕ) → Text
with_all t [] = t
with_all t (line ∷ lines) = with_all (with t line) lines

-- lines as one text
abbrev pub text_of : List (List ℕ) → List ℕ
text_of [] = []
text_of (line ∷ lines) = line ++ text_of lines

-- that text written whole
abbrev pub whole_of : Text → List ℕ → Text
whole_of t bs = record { bytes = over t.bytes t.at bs; at = t.at + length bs }
