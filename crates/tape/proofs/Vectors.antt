-- The worked positions hold: every row is computed. Assumes nothing.
use mathlib.Core.Path.{◌≡◌, refl}
use Rattle.tape.specs.Sample.{sample_of, placed_of}
use Rattle.tape.specs.Vectors.{given, wanted}

pub vectors : given ≡ wanted
unfolding sample_of placed_of
vectors = refl
