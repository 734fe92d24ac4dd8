-- The lines of a whole recording (docs/SCRIPT.md, "The listing"), and those that the calls on its pieces come to.
use Rattle.std.specs.Prelude.{ℕ, zero, suc, Option, Some, None, List, [], ◌∷◌, ◌++◌, length, drop, eqb}
use Rattle.codec.specs.Choice.{pick}
use Rattle.codec.specs.declared.time.Time.{Time}
use Rattle.reader.specs.Answer.{number_by}
use Rattle.recording.specs.Error.{number_of}
use Rattle.recording.specs.File.{Finding, Listing, listing_of}
use Rattle.recording.specs.Pieces.{fresh, next_of, kept_of}
use Rattle.recording.specs.Calls.{on_piece, on_pieces, told_of}
use Rattle.recording.specs.declared.pieces.Place.{Place}
use Rattle.recording.specs.declared.field.Field.{Field}
use Rattle.tape.specs.Start.{after_of, after_all}
use Rattle.listing.specs.Line.{end_line}
use Rattle.listing.specs.Field.{found_lines, field_lines}

-- the lines of findings, each with the start that is in force before it
abbrev pub lines_of : Option Time → List Finding → List (List ℕ)
lines_of m [] = []
lines_of m (f ∷ fs) = found_lines m f.tag f.size f.found f.body ++ lines_of (after_of m f.found) fs

-- the answer at the end is 0, or the number of the error
abbrev pub end_lines : Listing → List (List ℕ)
end_lines l = end_line (number_by number_of l.answer) l.skipped ∷ []

-- all that is written of a file
unfoldable pub listed_of : List ℕ → List (List ℕ)
listed_of s = lines_of None (listing_of s).findings ++ end_lines (listing_of s)

-- In pieces: of what a call saw, the lines, from the buffer as the call left it, and the start in force.
abbrev pub seen_lines : Option Time → Option Field → List ℕ → List (List ℕ)
seen_lines m (Some f) buffer = field_lines m f buffer
seen_lines m None buffer = []

abbrev pub after_seen : Option Time → Option Field → Option Time
after_seen m (Some f) = after_of m f.found
after_seen m None = m

-- at most n calls on the rest of a piece
unfoldable pub piece_lines : ℕ → Option Time → Place → List ℕ → List ℕ → List (List ℕ)
piece_lines zero m p buffer piece = []
piece_lines (suc n) m p buffer piece =
    pick (eqb (length piece) 0) []
    (seen_lines m (next_of p buffer piece).seen (kept_of p buffer piece)
    ++ piece_lines n (after_seen m (next_of p buffer piece).seen) (next_of p buffer piece).place (kept_of p buffer piece) (drop (next_of p buffer piece).used piece))

-- one piece after the other, with the place, the buffer and the start that the one before left
unfoldable pub pieces_lines : Option Time → Place → List ℕ → List (List ℕ) → List (List ℕ)
pieces_lines m p buffer [] = []
pieces_lines m p buffer (t ∷ ts) =
    piece_lines (length t) m p buffer t
    ++ pieces_lines (after_all m (on_piece (length t) p buffer t).findings) (on_piece (length t) p buffer t).place (on_piece (length t) p buffer t).buffer ts

-- from the start of a file to its end
unfoldable pub written_of : List ℕ → List (List ℕ) → List (List ℕ)
written_of buffer ts = pieces_lines None (fresh 0) buffer ts ++ end_lines (told_of (on_pieces (fresh 0) buffer ts))
