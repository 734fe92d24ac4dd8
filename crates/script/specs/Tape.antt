-- The lines that `record` knows beside those of a call script (docs/SCRIPT.md, "Recording").
use Rattle.std.specs.Prelude.{ℕ, Bool, ◌&&◌, List, codes, Option, Some, None, take, eqb}
use Rattle.codec.specs.Choice.{pick}
use Rattle.text.specs.Line.{words_of, word_of, same_of}
use Rattle.script.specs.Word.{on, wide_at, narrow_at}
use Rattle.script.specs.declared.tape.Tape.{Tape}

-- a line that begins with "note ", whatever follows
unfoldable pub is_note : List ℕ → Bool
is_note line = same_of (take 5 line) (codes "note ")

-- start SEC NANO
unfoldable pub started_of : List ℕ → Option Tape
started_of line =
    on (wide_at line 1)
    (λ sec. on (narrow_at line 2)
    (λ nano. Some (Tape.Start (record { sec = sec; nano = nano }))))

-- frame BYTES, start SEC NANO; any other line is for the call script to judge
unfoldable pub tape_of : List ℕ → Option Tape
tape_of line =
    pick (eqb (words_of line) 2 && same_of (word_of line 0) (codes "frame")) (Some Tape.Frame)
    (pick (eqb (words_of line) 3 && same_of (word_of line 0) (codes "start")) (started_of line) None)
