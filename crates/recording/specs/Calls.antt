-- The calls that read a file in pieces: on the rest of each piece until it is used up, then on the next.
use Rattle.std.specs.Prelude.{ℕ, zero, suc, List, [], ◌∷◌, ◌++◌, length, take, drop, eqb, Option, Some, None}
use Rattle.codec.specs.Choice.{pick}
use Rattle.recording.specs.File.{Finding, Listing, keeps}
use Rattle.recording.specs.Pieces.{fresh, next_of, kept_of, finish_of}
use Rattle.recording.specs.declared.pieces.Place.{Place}
use Rattle.recording.specs.declared.field.Field.{Field}

-- what the caller has after some calls
pub record Ran : Type 0 where
  pub findings : List Finding
  pub place : Place
  pub buffer : List ℕ

abbrev pub none : Place → List ℕ → Ran
none p buffer = record { findings = []; place = p; buffer = buffer }

abbrev pub before : List Finding → Ran → Ran
before fs r = record { findings = fs ++ r.findings; place = r.place; buffer = r.buffer }

-- a field that a call found, with the body that it left at the front of the buffer
abbrev pub noted : Option Field → List ℕ → List Finding
noted (Some f) buffer =
    record { tag = f.tag; size = f.length; found = f.found; body = pick (keeps f.tag f.length) (take f.length buffer) [] } ∷ []
noted None buffer = []

-- at most n calls on the rest of a piece
unfoldable pub on_piece : ℕ → Place → List ℕ → List ℕ → Ran
on_piece zero p buffer piece = none p buffer
on_piece (suc n) p buffer piece =
    pick (eqb (length piece) 0) (none p buffer)
    (before (noted (next_of p buffer piece).seen (kept_of p buffer piece))
    (on_piece n (next_of p buffer piece).place (kept_of p buffer piece) (drop (next_of p buffer piece).used piece)))

-- each call uses a byte at least, so a piece takes no more calls than it has bytes
unfoldable pub on_pieces : Place → List ℕ → List (List ℕ) → Ran
on_pieces p buffer [] = none p buffer
on_pieces p buffer (t ∷ ts) =
    before (on_piece (length t) p buffer t).findings
    (on_pieces (on_piece (length t) p buffer t).place (on_piece (length t) p buffer t).buffer ts)

-- all that the calls tell, the input being over
abbrev pub told_of : Ran → Listing
told_of r = record { findings = r.findings; answer = finish_of r.place; skipped = r.place.skipped }

-- from the start of a file
abbrev pub in_pieces : List ℕ → List (List ℕ) → Listing
in_pieces buffer ts = told_of (on_pieces (fresh 0) buffer ts)

-- the file that pieces are
abbrev pub join : List (List ℕ) → List ℕ
join [] = []
join (t ∷ ts) = t ++ join ts
