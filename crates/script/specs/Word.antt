-- The words of a line as numbers of their widths.
use Rattle.std.specs.Prelude.{ℕ, Bool, List, Option, Some, None, eqb}
use Rattle.text.specs.Line.{word_of}
use Rattle.text.specs.Number.{number_of}
use Rattle.script.specs.declared.word.Stamp.{Stamp}
use Rattle.script.specs.declared.word.Slot.{Slot}
use Rattle.script.specs.declared.word.Shape.{Shape}
use Rattle.script.specs.declared.word.Bounds.{Bounds}

-- what comes next where there is a value, and nothing where there is none
abbrev pub on : {A B : Type 0} → Option A → (A → Option B) → Option B
on (Some v) k = k v
on None k = None

-- a word of 32 bits
unfoldable pub narrow_of : List ℕ → Option ℕ
narrow_of w = number_of w 4294967295

-- the word of number k, of 64 bits, of 32 bits, and 0 or 1
unfoldable pub wide_at : List ℕ → ℕ → Option ℕ
wide_at line k = number_of (word_of line k) 18446744073709551615

unfoldable pub narrow_at : List ℕ → ℕ → Option ℕ
narrow_at line k = narrow_of (word_of line k)

unfoldable pub flag_at : List ℕ → ℕ → Option Bool
flag_at line k = on (number_of (word_of line k) 1) (λ v. Some (eqb v 1))

-- S SEC NANO
unfoldable pub stamp_at : List ℕ → Option Stamp
stamp_at line =
    on (wide_at line 1)
    (λ source. on (wide_at line 2)
    (λ sec. on (narrow_at line 3)
    (λ nano. Some (record { source = source; time = record { sec = sec; nano = nano } }))))

-- CHANNELS SLOT CYCLE behind them
unfoldable pub slot_at : List ℕ → Option Slot
slot_at line =
    on (narrow_at line 4)
    (λ channels. on (narrow_at line 5)
    (λ slot. on (narrow_at line 6)
    (λ cycle. Some (record { channels = channels; slot = slot; cycle = cycle }))))

-- F Q D
unfoldable pub shape_at : List ℕ → Option Shape
shape_at line =
    on (wide_at line 1)
    (λ size. on (wide_at line 2)
    (λ room. on (wide_at line 3)
    (λ deadline. Some (record { size = size; room = room; deadline = deadline }))))

-- S and two numbers
unfoldable pub bounds_at : List ℕ → Option Bounds
bounds_at line =
    on (wide_at line 1)
    (λ source. on (narrow_at line 2)
    (λ a. on (narrow_at line 3)
    (λ b. Some (record { source = source; a = a; b = b }))))
