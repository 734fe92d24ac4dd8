-- Worked examples on bytes. Assumes nothing.
use Prim.Native.Nat.{ℕ}
use mathlib.Core.Path.{◌≡◌, refl}
use mathlib.Core.Bool.{true, false}
use mathlib.Core.List.{List, [], ◌∷◌, map}
use Rattle.std.specs.Prelude.{Some, None, Ok, Err}
use Rattle.codec.specs.Number.{word, fits, get_of, part_of}
use Rattle.codec.specs.Ident.{kind_in, can_zero, can_range, can_fd, even_parity, odd_parity, pid_ok, flexray_range, ident_bytes}
use Rattle.codec.specs.Item.{encode}
use Rattle.codec.specs.Field.{read_flags, read_state, can_ident, flexray_ident, read_can, read_lin, lin_ident, read_flexray, frame_ident, error_ident, read_ident, read_load, read_item, bytes_at}
use Rattle.codec.specs.Header.{read_header}
use Rattle.codec.specs.Time.{ns, elapsed, ticks_of, recovered_of}
use Rattle.codec.proofs.PidLaws.{pid_of}
use Rattle.codec.specs.declared.time.Time.{Time}
use Rattle.codec.specs.declared.time.Elapsed.{Elapsed}
use Rattle.codec.specs.declared.refusal.Refusal.TheVariants as Refusal
use Rattle.codec.specs.declared.ident.Kind.TheVariants as Kind
use Rattle.codec.specs.declared.ident.Ident.TheVariants as Ident
use Rattle.codec.specs.declared.item.Item.{Item}

-- a frame of two CAN items, the second with a state, after 14 bytes of header
abbrev frame : List ℕ
frame =
    0x01 ∷ 0x00 ∷ 0x00 ∷ 0x00 ∷ 0x00 ∷ 0x00 ∷ 0x00 ∷ 0x10 ∷ 0x00 ∷ 0x00 ∷ 0x00 ∷ 0x00 ∷ 0x00 ∷ 0x16
    ∷ 0x00 ∷ 0x00 ∷ 0x61 ∷ 0x05 ∷ 0x00 ∷ 0x00 ∷ 0x01 ∷ 0x23 ∷ 0x02 ∷ 0x01 ∷ 0x02
    ∷ 0x00 ∷ 0x02 ∷ 0xe1 ∷ 0x05 ∷ 0x40 ∷ 0xc1 ∷ 0xab ∷ 0xcd ∷ 0xef ∷ 0x01 ∷ 0xaa
    ∷ []

abbrev one : Item
one = record { offset = record { 0 = 0 }; network = 5; state = None; ident = Ident.Can 0x123; carries = true }

abbrev two : Item
two = record { offset = record { 0 = 2 }; network = 5; state = Some 0x40; ident = Ident.Can 0xc1abcdef; carries = true }

header : read_header frame ≡ Ok (record { sequence = 0; time = record { sec = 16; nano = 0 }; length = 22 })
unfolding read_header word
header = refl

item_one : read_item frame 14 ≡ Ok (record { item = one; start = 23; len = 2; next = 25 })
unfolding read_item read_flags read_state read_ident read_can can_ident read_load get_of part_of fits word kind_in can_zero can_range can_fd
item_one = refl

item_two : read_item frame 25 ≡ Ok (record { item = two; start = 35; len = 1; next = 36 })
unfolding read_item read_flags read_state read_ident read_can can_ident read_load get_of part_of fits word kind_in can_zero can_range can_fd
item_two = refl

payload_one : bytes_at frame 23 2 ≡ 0x01 ∷ 0x02 ∷ []
unfolding bytes_at fits
payload_one = refl

-- the first item as bytes
written : encode one (0x01 ∷ 0x02 ∷ []) ≡ 0x00 ∷ 0x00 ∷ 0x61 ∷ 0x05 ∷ 0x00 ∷ 0x00 ∷ 0x01 ∷ 0x23 ∷ 0x02 ∷ 0x01 ∷ 0x02 ∷ []
unfolding encode
written = refl

-- a FlexRay id on both channels, slot 1027, cycle 63, there and back
flexray : ident_bytes (Ident.FlexRay 3 1027 63) ≡ 0xcc ∷ 0x03 ∷ 0x3f ∷ []
flexray = refl

flexray_back : read_ident (0xcc ∷ 0x03 ∷ 0x3f ∷ []) 0 Kind.FlexRay true false ≡ Ok (Ident.FlexRay 3 1027 63, 3)
unfolding read_ident read_flexray flexray_ident frame_ident part_of fits flexray_range
flexray_back = refl

-- an error without a frame on both channels, there and back with state and id alone; with a payload; with a slot or a cycle
error : ident_bytes (Ident.FlexRayError 3) ≡ 0xc0 ∷ 0x00 ∷ 0x00 ∷ []
error = refl

error_back : read_ident (0xc0 ∷ 0x00 ∷ 0x00 ∷ []) 0 Kind.FlexRay true true ≡ Ok (Ident.FlexRayError 3, 3)
unfolding read_ident read_flexray flexray_ident error_ident part_of fits
error_back = refl

error_loaded : read_ident (0xc0 ∷ 0x00 ∷ 0x00 ∷ []) 0 Kind.FlexRay true false ≡ Err Refusal.Reserved
unfolding read_ident read_flexray flexray_ident part_of fits
error_loaded = refl

error_slotted : read_ident (0xc1 ∷ 0x00 ∷ 0x00 ∷ []) 0 Kind.FlexRay true true ≡ Err Refusal.Range
unfolding read_ident read_flexray flexray_ident error_ident part_of fits
error_slotted = refl

error_cycled : read_ident (0xc0 ∷ 0x00 ∷ 0x01 ∷ []) 0 Kind.FlexRay true true ≡ Err Refusal.Range
unfolding read_ident read_flexray flexray_ident error_ident part_of fits
error_cycled = refl

-- the PIDs of ids 0, 1, 2, 3C, 3D and 3F hexadecimal
pids : map pid_of (0x00 ∷ 0x01 ∷ 0x02 ∷ 0x3c ∷ 0x3d ∷ 0x3f ∷ []) ≡ 0x80 ∷ 0xc1 ∷ 0x42 ∷ 0x3c ∷ 0x7d ∷ 0xbf ∷ []
pids = refl

-- a LIN id read: the right PID of id 3D, and the same id with P0 fallen
lin_back : read_ident (0x7d ∷ []) 0 Kind.Lin true false ≡ Ok (Ident.Lin 0x7d, 1)
unfolding read_ident read_lin lin_ident get_of fits word pid_ok even_parity odd_parity
lin_back = refl

lin_broken : read_ident (0x3d ∷ []) 0 Kind.Lin true false ≡ Err Refusal.Range
unfolding read_ident read_lin lin_ident get_of fits word pid_ok even_parity odd_parity
lin_broken = refl

-- P2 to P5 (docs/RULES.md, "Worked examples") on the measure
under_a_tick : elapsed 0 9999 ≡ Elapsed.Ticks (record { 0 = 0 })
unfolding elapsed ticks_of
under_a_tick = refl

one_tick : elapsed 0 10000 ≡ Elapsed.Ticks (record { 0 = 1 })
unfolding elapsed ticks_of
one_tick = refl

last_tick : elapsed 0 655359999 ≡ Elapsed.Ticks (record { 0 = 65535 })
unfolding elapsed ticks_of
last_tick = refl

too_far : elapsed 0 655360000 ≡ Elapsed.TooFar
unfolding elapsed ticks_of
too_far = refl

over_the_second : elapsed (ns (record { sec = 9; nano = 999999000 })) (ns (record { sec = 10; nano = 9000 })) ≡ Elapsed.Ticks (record { 0 = 1 })
unfolding elapsed ticks_of
over_the_second = refl

backwards : elapsed 1 0 ≡ Elapsed.Backwards (record { 0 = 1 })
unfolding elapsed ticks_of
backwards = refl

-- a clock that stands still, and one set back by 1 ns, by 4 ms, by the most that is told, one nanosecond less and one more; over a
-- second's edge, the nanosecond field falling and rising; by 111 seconds; from the last moment to the first
abbrev from : Time → Time → Elapsed
from header now = elapsed (ns header) (ns now)

abbrev at : ℕ → ℕ → Time
at sec nano = record { sec = sec; nano = nano }

abbrev by : ℕ → Elapsed
by n = Elapsed.Backwards (record { 0 = n })

steps_back :
    (from (at 16 7) (at 16 7) ∷ from (at 16 1) (at 16 0) ∷ from (at 16 20000000) (at 16 16000000)
    ∷ from (at 16 294967295) (at 12 0) ∷ from (at 16 294967294) (at 12 0) ∷ from (at 16 294967296) (at 12 0)
    ∷ from (at 16 5) (at 15 3) ∷ from (at 16 3) (at 15 999999999) ∷ from (at 127 0) (at 16 0)
    ∷ from (at 281474976710655 999999999) (at 0 0)
    ∷ [])
    ≡ Elapsed.Ticks (record { 0 = 0 }) ∷ by 1 ∷ by 4000000
    ∷ by 4294967295 ∷ by 4294967294 ∷ by 4294967295
    ∷ by 1000000002 ∷ by 4 ∷ by 4294967295
    ∷ by 4294967295
    ∷ []
unfolding elapsed ticks_of
steps_back = refl

-- into the second after the last one that a header can hold
past_the_last : recovered_of (record { sec = 281474976710655; nano = 999990000 }) 1 ≡ record { sec = 281474976710656; nano = 0 }
unfolding recovered_of
past_the_last = refl
