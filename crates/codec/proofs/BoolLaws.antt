-- Laws of tests that are joined. Assumes nothing.
use mathlib.Core.Path.{◌≡◌, refl}
use mathlib.Core.Bool.{Bool, true, false, ◌&&◌, ◌||◌}

pub and_false : (t : Bool) → t && false ≡ false
and_false true = refl
and_false false = refl

pub and_l : (a b : Bool) → a && b ≡ true → a ≡ true
and_l true b e = refl
and_l false b e = e

pub and_r : (a b : Bool) → a && b ≡ true → b ≡ true
and_r true b e = e
and_r false b e = cc

pub or_false : (t : Bool) → t || false ≡ t
or_false true = refl
or_false false = refl

pub or_true : (t : Bool) → t || true ≡ true
or_true true = refl
or_true false = refl
