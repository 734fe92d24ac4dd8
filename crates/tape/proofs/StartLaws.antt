-- Which start is in force: the latest good one before a field. Assumes nothing.
use mathlib.Core.Path.{◌≡◌, refl, ◌∙◌, ap}
use mathlib.Core.Bool.{false, true≢false}
use mathlib.Core.List.{List, [], ◌∷◌, ◌++◌}
use Rattle.std.specs.Prelude.{Option, Some, Result, Ok, Err}
use Rattle.codec.specs.declared.time.Time.{Time}
use Rattle.recording.specs.File.{Finding}
use Rattle.recording.specs.declared.error.RecordError.{RecordError}
use Rattle.recording.specs.declared.field.Found.{Found}
use Rattle.tape.specs.Start.{after_of, after_all, starts, NoStart}

-- nothing but a good start changes it
pub others_keep : (m : Option Time) (x : Result Found RecordError) → starts x ≡ false → after_of m x ≡ m
others_keep m (Ok (Found.Frame h)) e = refl
others_keep m (Ok Found.Note) e = refl
others_keep m (Ok (Found.Start t)) e = absurd (true≢false e)
others_keep m (Ok Found.Skipped) e = refl
others_keep m (Err why) e = refl

pub none-keeps : (m : Option Time) (fs : List Finding) → NoStart fs → after_all m fs ≡ m
none-keeps m [] h = refl
none-keeps m (f ∷ fs) h = ap (λ (k : Option Time). after_all k fs) (others_keep m f.found h.0) ∙ none-keeps m fs h.1

-- whatever came before it, a good start is in force until the next one
pub latest : (m : Option Time) (fs gs : List Finding) (f : Finding) (t : Time) → f.found ≡ Ok (Found.Start t) → NoStart gs
    → after_all m (fs ++ (f ∷ gs)) ≡ Some t
latest m [] gs f t e h = rw e (none-keeps (Some t) gs h)
latest m (x ∷ fs) gs f t e h = latest (after_of m x.found) fs gs f t e h
