-- The lines of a mended recording (docs/RULES.md, "Mending"), told from those of the file that it was mended from.
use Rattle.std.specs.Prelude.{ℕ, Option, List, [], ◌∷◌, ◌++◌}
use Rattle.codec.specs.Choice.{pick}
use Rattle.recording.specs.File.{Finding}
use Rattle.tape.specs.Start.{after_of}
use Rattle.codec.specs.declared.time.Time.{Time}
use Rattle.listing.specs.Field.{found_lines}
use Rattle.mending.specs.Copy.{stays}

-- the lines of a file without those of its refused fields: the others have the positions that they have there
abbrev pub unrefused : Option Time → List Finding → List (List ℕ)
unrefused m [] = []
unrefused m (f ∷ fs) =
    pick (stays f.found) (found_lines m f.tag f.size f.found f.body) [] ++ unrefused (after_of m f.found) fs
