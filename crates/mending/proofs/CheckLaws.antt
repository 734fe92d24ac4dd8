-- Laws of a check: of the copy, of the listing, and in pieces. Assumes nothing.
use Prim.Native.Nat.{ℕ, ◌+◌, ◌≤◌, min}
use mathlib.Core.Path.{◌≡◌, refl, ◌∙◌, ap}
use mathlib.Core.List.{List, [], ◌∷◌}
use native.Mathlib.Omega.{arith}
use native.Mathlib.Nat.{zero-add}
use lib.ListN.{length}
use Rattle.recording.specs.File.{Finding, findings_of, listing_of, skips}
use Rattle.recording.specs.Trip.{good}
use Rattle.recording.specs.Pieces.{fresh, sound_of}
use Rattle.recording.specs.Calls.{on_pieces, join}
use Rattle.std.specs.Prelude.{Result, Ok, Err}
use Rattle.recording.specs.declared.error.RecordError.{RecordError}
use Rattle.recording.specs.declared.field.Found.{Found}
use Rattle.recording.specs.declared.pieces.Place.{Place}
use Rattle.recording.proofs.PlaceLaws.{sound_same}
use Rattle.recording.proofs.HeldLaws.{Holds, holds_none}
use Rattle.recording.proofs.InPieces.{pieces_read}
use Rattle.mending.specs.Copy.{copy_of, stayed}
use Rattle.mending.specs.Check.{count_of, bad, most, tally_of, tallied, report_of, checked_of}
use Rattle.mending.specs.Calls.{tally_all, checked_by}
use Rattle.mending.specs.declared.check.Tally.{Tally}
use Rattle.mending.proofs.TallyLaws.{tally_as}
use Rattle.mending.proofs.CopyLaws.{mended}

-- Of the findings that stay, as many are good and unknown as there were, and none is bad.
record Same (fs : List Finding) : Type 0 where
  goods : count_of good (stayed fs) ≡ count_of good fs
  bads : count_of bad (stayed fs) ≡ 0
  unknowns : skips (stayed fs) ≡ skips fs

same_more : (f : Finding) (fs : List Finding) (x : Result Found RecordError) → f.found ≡ x → Same fs → Same (f ∷ fs)
same_more f fs (Ok (Found.Frame h)) e i = record { goods = simp (e, i.goods); bads = simp (e, i.bads); unknowns = simp (e, i.unknowns) }
same_more f fs (Ok Found.Note) e i = record { goods = simp (e, i.goods); bads = simp (e, i.bads); unknowns = simp (e, i.unknowns) }
same_more f fs (Ok (Found.Start t)) e i = record { goods = simp (e, i.goods); bads = simp (e, i.bads); unknowns = simp (e, i.unknowns) }
same_more f fs (Ok Found.Skipped) e i = record { goods = simp (e, i.goods); bads = simp (e, i.bads); unknowns = simp (e, i.unknowns) }
same_more f fs (Err why) e i = record { goods = simp (e, i.goods) (omega arith); bads = simp (e, i.bads); unknowns = simp (e, i.unknowns) (omega arith) }

same : (fs : List Finding) → Same fs
same [] = record { goods = refl; bads = refl; unknowns = refl }
same (f ∷ fs) = same_more f fs f.found refl (same fs)

-- The check of the copy: a line for each field that stays, good or unknown, no rest, and none bad.
pub check_of_copy : (s : List ℕ) → checked_of (copy_of s)
    ≡ report_of (stayed (findings_of s)) 0 (record { good = (tally_of (findings_of s)).good; bad = 0 }) (min (skips (findings_of s)) most)
unfolding checked_of
check_of_copy s =
    let m = mended s in
    let n = same (findings_of s) in
    rw (m.findings, m.left, n.goods, n.bads, n.unknowns)

-- The listing of the copy: the findings that stay, 0 at the end, and as many skipped fields as there were.
pub list_of_copy : (s : List ℕ) → listing_of (copy_of s) ≡ record { findings = stayed (findings_of s); answer = Ok tt; skipped = (listing_of s).skipped }
unfolding listing_of
list_of_copy s =
    let m = mended s in
    rw (m.findings, m.left, (same (findings_of s)).unknowns)

-- counting one by one comes to the counts of all
tally-all : (fs : List Finding) (t : Tally) → t.good ≤ most → t.bad ≤ most
    → tally_all t fs ≡ record { good = min (t.good + count_of good fs) most; bad = min (t.bad + count_of bad fs) most }
tally-all [] t g b = tally_as (omega arith) (omega arith)
tally-all (f ∷ fs) t g b = tally-all fs (tallied t f.found) (omega arith) (omega arith) ∙ tally_as (omega arith) (omega arith)

-- what is left is what the place is inside of
inside_is : {p : Place} {buffer u : List ℕ} → Holds p buffer u → (sound_of p).past ≡ length u
inside_is {p} h =
    let a = h.past in
    let b = h.short in
    ap (λ (x : Place). x.past) (sound_same p (omega arith)) ∙ a

-- however a file is cut, and whatever the buffer held, what is written is the check of the whole
pub checked_in_pieces : (buffer : List ℕ) (ts : List (List ℕ)) → length buffer ≡ 1472 → checked_by buffer ts ≡ checked_of (join ts)
unfolding checked_of
checked_in_pieces buffer ts e =
    let r = pieces_read (fresh 0) buffer [] ts (holds_none 0 buffer e) (omega arith) in
    let fs = findings_of (join ts) in
    let k : (on_pieces (fresh 0) buffer ts).place.skipped ≡ min (skips fs) most = r.skipped ∙ ap (λ (n : ℕ). min n most) (zero-add (skips fs)) in
    let t : tally_all (record { good = 0; bad = 0 }) fs ≡ tally_of fs
    = tally-all fs (record { good = 0; bad = 0 }) (omega arith) (omega arith) ∙ tally_as (omega arith) (omega arith) in
    rw (r.findings, inside_is r.holds, t, k)
