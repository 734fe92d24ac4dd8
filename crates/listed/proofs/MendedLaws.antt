-- A mended recording lists as the file that it was mended from, less what was refused there. Assumes nothing.
use Prim.Native.Nat.{ℕ}
use mathlib.Core.Path.{◌≡◌, refl, ◌∙◌, ap}
use mathlib.Core.List.{List, [], ◌∷◌, ◌++◌}
use Rattle.recording.specs.File.{Finding, Listing, findings_of, listing_of}
use Rattle.recording.specs.declared.field.Found.{Found}
use Rattle.std.specs.Prelude.{Option, Some, None, Result, Ok, Err}
use Rattle.codec.specs.declared.time.Time.{Time}
use Rattle.recording.specs.declared.error.RecordError.{RecordError}
use Rattle.listing.specs.Line.{end_line}
use Rattle.mending.specs.Copy.{copy_of, stayed}
use Rattle.mending.proofs.CheckLaws.{list_of_copy}
use Rattle.listed.specs.File.{lines_of, end_lines, listed_of}
use Rattle.listed.specs.Mended.{unrefused}

-- a refused field changes no start in force, so that no line of another one moves
abbrev Lists : List Finding → Type 0
Lists fs = (m : Option Time) → lines_of m (stayed fs) ≡ unrefused m fs

lists_more : (f : Finding) (fs : List Finding) (x : Result Found RecordError) → f.found ≡ x → Lists fs → Lists (f ∷ fs)
lists_more f fs (Ok (Found.Frame h)) e i m = simp (e, i m)
lists_more f fs (Ok Found.Note) e i m = simp (e, i m)
lists_more f fs (Ok (Found.Start t)) e i m = simp (e, i (Some t))
lists_more f fs (Ok Found.Skipped) e i m = simp (e, i m)
lists_more f fs (Err why) e i m = simp (e, i m)

lists_stayed : (fs : List Finding) → Lists fs
lists_stayed [] m = refl
lists_stayed (f ∷ fs) m = lists_more f fs f.found refl (lists_stayed fs) m

pub mended_lists : (s : List ℕ) → listed_of (copy_of s) ≡ unrefused None (findings_of s) ++ (end_line 0 (listing_of s).skipped ∷ [])
unfolding listed_of
mended_lists s =
    ap (λ (l : Listing). lines_of None l.findings ++ end_lines l) (list_of_copy s)
    ∙ rw (lists_stayed (findings_of s) None)
