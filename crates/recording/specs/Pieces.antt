-- One call on the rest of a piece: it goes as far as the end of one field or of the piece.
use Rattle.std.specs.Prelude.{ℕ, ◌+◌, ◌-◌, ◌*◌, min, ◌&&◌, List, length, take, drop, get_or, ltb, Some, None, Result, ⊤}
use Rattle.codec.specs.Choice.{pick}
use Rattle.codec.specs.Number.{over, fits}
use Rattle.codec.specs.Field.{bytes_at}
use Rattle.recording.specs.File.{verdict, keeps, skip_bit, end_of}
use Rattle.recording.specs.declared.error.RecordError.{RecordError}
use Rattle.recording.specs.declared.field.Found.{Found}
use Rattle.recording.specs.declared.pieces.Place.{Place}
use Rattle.recording.specs.declared.pieces.Step.{Step}

-- between two fields
abbrev pub fresh : ℕ → Place
fresh n = record { past = 0; tag = 0; high = 0; low = 0; skipped = n }

-- the body's length by the bytes that were read of it, and the field's
abbrev pub length_of : Place → ℕ
length_of p = p.high * 256 + p.low

abbrev pub size_of : Place → ℕ
size_of p = 3 + length_of p

-- a place that reading cannot leave, at or past the end of its field, counts as one between two fields
unfoldable pub sound_of : Place → Place
sound_of p = pick (ltb p.past (size_of p)) p (fresh p.skipped)

-- byte k of tag and length: as it was read before, or from the piece; where neither has it, it is not looked at yet
unfoldable pub head_byte : ℕ → ℕ → ℕ → List ℕ → ℕ
head_byte k past old piece = pick (ltb k past) old (get_or piece (k - past) old)

unfoldable pub headed_of : Place → List ℕ → Place
headed_of p piece = record {
  past = p.past;
  tag = head_byte 0 p.past p.tag piece;
  high = head_byte 1 p.past p.high piece;
  low = head_byte 2 p.past p.low piece;
  skipped = p.skipped;
}

-- From here on p has what the piece tells of tag and length.

-- how many of n bytes belong to the field
unfoldable pub used_of : Place → ℕ → ℕ
used_of p n = min n (size_of p - p.past)

-- those of them that are of the body: past tag and length
unfoldable pub part_of : Place → List ℕ → List ℕ
part_of p piece = take (used_of p (length piece) - (3 - p.past)) (drop (3 - p.past) piece)

-- they are kept after those that were read before
unfoldable pub buffer_of : Place → List ℕ → List ℕ → List ℕ
buffer_of p buffer piece =
    pick (keeps p.tag (length_of p) && fits buffer (p.past - 3) (length (part_of p piece)))
    (over buffer (p.past - 3) (part_of p piece)) buffer

-- a skipped field is counted, up to 4,294,967,295
abbrev pub counted : Result Found RecordError → ℕ → ℕ
counted found n = min (n + skip_bit found) 4294967295

-- the field's verdict, where it is complete: its body is the front of the buffer
unfoldable pub found_of : Place → List ℕ → Result Found RecordError
found_of p buffer = verdict p.tag (length_of p) (bytes_at buffer 0 (length_of p))

-- n bytes further, short of the field's end
abbrev pub moved_of : Place → ℕ → Place
moved_of p n = record { past = p.past + n; tag = p.tag; high = p.high; low = p.low; skipped = p.skipped }

-- with the buffer as the call leaves it
abbrev pub done_of : Place → ℕ → Result Found RecordError → Step
done_of p n found = record {
  place = fresh (counted found p.skipped);
  used = n;
  seen = Some (record { tag = p.tag; length = length_of p; found = found });
}

abbrev pub more_of : Place → ℕ → Step
more_of p n = record { place = moved_of p n; used = n; seen = None }

unfoldable pub ends_of : Place → ℕ → List ℕ → Step
ends_of p n buffer = pick (ltb (p.past + n) (size_of p)) (more_of p n) (done_of p n (found_of p buffer))

-- the call: answer and buffer
unfoldable pub place_of : Place → List ℕ → Place
place_of p piece = headed_of (sound_of p) piece

unfoldable pub next_of : Place → List ℕ → List ℕ → Step
next_of p buffer piece = ends_of (place_of p piece) (used_of (place_of p piece) (length piece)) (buffer_of (place_of p piece) buffer piece)

unfoldable pub kept_of : Place → List ℕ → List ℕ → List ℕ
kept_of p buffer piece = buffer_of (place_of p piece) buffer piece

-- the end of the input
unfoldable pub finish_of : Place → Result ⊤ RecordError
finish_of p = end_of (sound_of p).past
