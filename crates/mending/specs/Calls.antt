-- What the calls come to that check and mend a file in pieces: on the rest of each piece until it is used up, then on the next.
use Rattle.std.specs.Prelude.{ℕ, zero, suc, ◌+◌, Option, Some, None, List, [], ◌∷◌, ◌++◌, length, take, drop, eqb}
use Rattle.codec.specs.Choice.{pick}
use Rattle.codec.specs.Number.{over}
use Rattle.recording.specs.File.{Finding}
use Rattle.recording.specs.Pieces.{fresh, sound_of, place_of, used_of, next_of, kept_of}
use Rattle.recording.specs.Calls.{Ran, on_pieces}
use Rattle.recording.specs.declared.field.Field.{Field}
use Rattle.recording.specs.declared.pieces.Place.{Place}
use Rattle.mending.specs.Copy.{stays}
use Rattle.mending.specs.Check.{tallied, report_of}
use Rattle.mending.specs.declared.check.Tally.{Tally}

-- The field under way is held from its tag on: what a call uses of the piece goes behind what was read of it before.
unfoldable pub held_of : Place → List ℕ → List ℕ → List ℕ
held_of p hold piece = over hold (sound_of p).past (take (used_of (place_of p piece) (length piece)) piece)

-- the bytes of a field that is complete: all of them at the front of what is held, none of a bad one
unfoldable pub kept_in : Field → List ℕ → List ℕ
kept_in f hold = pick (stays f.found) (take (3 + f.length) hold) []

abbrev pub kept_seen : Option Field → List ℕ → List ℕ
kept_seen (Some f) hold = kept_in f hold
kept_seen None hold = []

-- what the caller has after some calls
pub record Copied : Type 0 where
  pub copy : List ℕ
  pub place : Place
  pub buffer : List ℕ
  pub hold : List ℕ

abbrev pub none : Place → List ℕ → List ℕ → Copied
none p buffer hold = record { copy = []; place = p; buffer = buffer; hold = hold }

abbrev pub behind : List ℕ → Copied → Copied
behind bs r = record { copy = bs ++ r.copy; place = r.place; buffer = r.buffer; hold = r.hold }

-- at most n calls on the rest of a piece
unfoldable pub copy_piece : ℕ → Place → List ℕ → List ℕ → List ℕ → Copied
copy_piece zero p buffer hold piece = none p buffer hold
copy_piece (suc n) p buffer hold piece =
    pick (eqb (length piece) 0) (none p buffer hold)
    (behind (kept_seen (next_of p buffer piece).seen (held_of p hold piece))
    (copy_piece n (next_of p buffer piece).place (kept_of p buffer piece) (held_of p hold piece) (drop (next_of p buffer piece).used piece)))

unfoldable pub copy_pieces : Place → List ℕ → List ℕ → List (List ℕ) → Copied
copy_pieces p buffer hold [] = none p buffer hold
copy_pieces p buffer hold (t ∷ ts) =
    behind (copy_piece (length t) p buffer hold t).copy
    (copy_pieces (copy_piece (length t) p buffer hold t).place (copy_piece (length t) p buffer hold t).buffer (copy_piece (length t) p buffer hold t).hold ts)

-- all that is written of a file by who mends it
abbrev pub mended_by : List ℕ → List ℕ → List (List ℕ) → List ℕ
mended_by buffer hold ts = (copy_pieces (fresh 0) buffer hold ts).copy

-- the counts, from those before the first of these findings
abbrev pub tally_all : Tally → List Finding → Tally
tally_all t [] = t
tally_all t (f ∷ fs) = tally_all (tallied t f.found) fs

-- all that is written by who checks it: of each call's finding its line, and at the end what is left, and the counts
abbrev pub report_by : Ran → List ℕ
report_by r = report_of r.findings (sound_of r.place).past (tally_all (record { good = 0; bad = 0 }) r.findings) r.place.skipped

abbrev pub checked_by : List ℕ → List (List ℕ) → List ℕ
checked_by buffer ts = report_by (on_pieces (fresh 0) buffer ts)
