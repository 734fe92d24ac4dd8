-- Filters (docs/RULES.md, "Filters"; Specification of Bus Mirroring, 7.2.4).
use Rattle.std.specs.Prelude.{ℕ, ◌%◌, Bool, true, false, ◌&&◌, leb, eqb}
use Rattle.std.specs.Int.Bits.{bit_and}
use Rattle.codec.specs.Choice.{pick}
use Rattle.codec.specs.Ident.{network_type}
use Rattle.codec.specs.declared.ident.Kind.{Kind}
use Rattle.codec.specs.declared.ident.Ident.{Ident}
use Rattle.bus.specs.declared.filter.Filter.{Filter}
use Rattle.bus.specs.declared.filter.Addition.{Addition}

-- a mask filter matches when key AND mask equals code, a range filter when the key is within its bounds
abbrev pub keyed : Filter → ℕ → Bool
keyed Filter.Free key = false
keyed (Filter.Mask mask code) key = eqb (bit_and key mask) code
keyed (Filter.Range lower upper) key = leb lower key && leb key upper
keyed (Filter.Slots low high lowCycle highCycle repetition) key = false

-- cycle mod repetition within two bounds; a repetition of 0 matches nothing
unfoldable pub cycled : ℕ → ℕ → ℕ → ℕ → Bool
cycled cycle low high repetition = pick (eqb repetition 0) false (leb low (cycle % repetition) && leb (cycle % repetition) high)

-- slot within two bounds, and cycle mod repetition within two bounds
abbrev pub slotted : Filter → ℕ → ℕ → Bool
slotted Filter.Free slot cycle = false
slotted (Filter.Mask mask code) slot cycle = false
slotted (Filter.Range lower upper) slot cycle = false
slotted (Filter.Slots low high lowCycle highCycle repetition) slot cycle =
    leb low slot && leb slot high && cycled cycle lowCycle highCycle repetition

-- the CAN key is the 32-bit id with its type bits, the LIN key PID mod 64; an error without a frame has nothing to be asked for
abbrev pub matches : Filter → Ident → Bool
matches f (Ident.Can key) = keyed f key
matches f (Ident.Lin pid) = keyed f (pid % 64)
matches f (Ident.FlexRay channels slot cycle) = slotted f slot cycle
matches f (Ident.FlexRayError channels) = false
matches f (Ident.Bare k) = false

-- whether filters are asked at all: not for an error without a frame
abbrev pub filtered : Ident → Bool
filtered (Ident.Can key) = true
filtered (Ident.Lin pid) = true
filtered (Ident.FlexRay channels slot cycle) = true
filtered (Ident.FlexRayError channels) = false
filtered (Ident.Bare k) = true

abbrev pub is_free : Filter → Bool
is_free Filter.Free = true
is_free (Filter.Mask mask code) = false
is_free (Filter.Range lower upper) = false
is_free (Filter.Slots low high lowCycle highCycle repetition) = false

unfoldable pub same_kind : Kind → Kind → Bool
same_kind a b = eqb (network_type a) (network_type b)

-- a filter of keys to be added, each of them at most so large
unfoldable pub mask_of : ℕ → Kind → ℕ → ℕ → ℕ → Addition
mask_of source kind most mask code =
    record { source = source; kind = kind; good = leb mask most && leb code most; filter = Filter.Mask mask code }

unfoldable pub range_of : ℕ → Kind → ℕ → ℕ → ℕ → Addition
range_of source kind most lower upper =
    record { source = source; kind = kind; good = leb lower upper && leb upper most; filter = Filter.Range lower upper }

-- a filter to be added, and whether it is in range (answer 9): any 32-bit mask, code and bounds for CAN
unfoldable pub can_mask : ℕ → ℕ → ℕ → Addition
can_mask source mask code = record { source = source; kind = Kind.Can; good = true; filter = Filter.Mask mask code }

unfoldable pub can_range : ℕ → ℕ → ℕ → Addition
can_range source lower upper =
    record { source = source; kind = Kind.Can; good = leb lower upper; filter = Filter.Range lower upper }

-- mask, code and bounds at most 63 for LIN
unfoldable pub lin_mask : ℕ → ℕ → ℕ → Addition
lin_mask source mask code =
    record { source = source; kind = Kind.Lin; good = leb mask 63 && leb code 63; filter = Filter.Mask mask code }

unfoldable pub lin_range : ℕ → ℕ → ℕ → Addition
lin_range source lower upper =
    record { source = source; kind = Kind.Lin; good = leb lower upper && leb upper 63; filter = Filter.Range lower upper }

-- slots 0 to 2,047, cycles 0 to 63, repetition 1 to 64; numbers in range are their own remainders
unfoldable pub slots_of : ℕ → ℕ → ℕ → ℕ → ℕ → ℕ → Addition
slots_of source low high lowCycle highCycle repetition = record {
  source = source;
  kind = Kind.FlexRay;
  good = leb low high && leb high 2047 && (leb lowCycle highCycle && leb highCycle 63) && leb 1 repetition && leb repetition 64;
  filter = Filter.Slots (low % 65536) (high % 65536) (lowCycle % 256) (highCycle % 256) (repetition % 256);
}
