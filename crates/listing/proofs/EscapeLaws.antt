-- How long the line of a note is. Assumes nothing.
use Prim.Native.Nat.{ℕ, ◌+◌, ◌≤◌, ◌<◌}
use mathlib.Core.Path.{◌≡◌, sym, ◌∙◌}
use mathlib.Core.Bool.{Bool, true, false, not}
use mathlib.Core.List.{List, [], ◌∷◌}
use native.Mathlib.Omega.{arith}
use lib.ListN.{length, length-append}
use borrow.Author.Tests.{leb-true, leb-false, not-true, not-false}
use Rattle.text.specs.Put.{hexes}
use Rattle.listing.specs.Line.{plain, escape_of, spread, note_fits, note_line}

pub escape_plain : (b : ℕ) → plain b ≡ true → escape_of b ≡ b ∷ []
unfolding escape_of
escape_plain b e = rw e

pub escape_code : (b : ℕ) → plain b ≡ false → escape_of b ≡ 92 ∷ 120 ∷ hexes (b ∷ [])
unfolding escape_of
escape_code b e = rw e

pub note_length : (bs : List ℕ) → length (note_line bs) ≡ length (spread escape_of bs) + 6
unfolding note_line
note_length bs = simp length-append (omega arith)

pub room_left : (bs : List ℕ) (room : ℕ) {r : Bool} → r ≡ note_fits bs room → not r ≡ false → length (spread escape_of bs) ≤ room
unfolding note_fits
room_left bs room {r} e h = leb-true (length (spread escape_of bs)) room (sym e ∙ not-false r h)

pub no_room_left : (bs : List ℕ) (room : ℕ) {r : Bool} → r ≡ note_fits bs room → not r ≡ true → room < length (spread escape_of bs)
unfolding note_fits
no_room_left bs room {r} e h = leb-false (length (spread escape_of bs)) room (sym e ∙ not-true r h)
