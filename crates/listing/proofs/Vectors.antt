-- Worked lines, computed by antt. Assumes nothing.
use Prim.Native.Nat.{ℕ}
use mathlib.Core.Path.{◌≡◌, refl}
use mathlib.Core.Bool.{Bool, true, false}
use mathlib.Core.List.{[], ◌∷◌}
use Rattle.codec.specs.Ident.{can_fd}
use Rattle.codec.specs.declared.time.Time.{Time}
use Rattle.codec.specs.declared.ident.Kind.TheVariants as Kind
use Rattle.codec.specs.declared.ident.Ident.{Ident}
use Rattle.codec.specs.declared.item.Item.{Item}
use Rattle.std.specs.Prelude.{Option, Some, None, Err}
use Rattle.recording.specs.declared.error.RecordError.{RecordError}
use Rattle.tape.specs.Sample.{sample_of, placed_of}
use Rattle.text.specs.Put.{letter_of, capital_of, decimals, decimal_of}
use Rattle.text.specs.Draft.{field_text, row_of}
use Rattle.listing.specs.Line.{fixed_of, hex_text, time_text, signed_text, position_text, bus_text, id_digits, can_text, channels_text, flexray_text, error_text, place_text, shown_text, front_text, item_line, frame_line, start_line, refused_line, skipped_line, end_line, plain, escape_of, note_line}
use Rattle.listing.specs.Field.{found_lines}

abbrev five : Time
five = record { sec = 5; nano = 1 }

-- an item of network 9; its offset is not shown
abbrev made : Option ℕ → Ident → Bool → Item
made state ident carries = record { offset = record { 0 = 0 }; network = 9; state = state; ident = ident; carries = carries }

-- "  5.000000001 - CANFD 9 01ABCDEF 40 1 AA"
can-fd : item_line None five (made (Some 0x40) (Ident.Can 0xc1abcdef) true) (0xaa ∷ []) ≡ 32 ∷ 32 ∷ 53 ∷ 46 ∷ 48 ∷ 48 ∷ 48 ∷ 48 ∷ 48 ∷ 48 ∷ 48 ∷ 48 ∷ 49 ∷ 32 ∷ 45 ∷ 32 ∷ 67 ∷ 65 ∷ 78 ∷ 70 ∷ 68 ∷ 32 ∷ 57 ∷ 32 ∷ 48 ∷ 49 ∷ 65 ∷ 66 ∷ 67 ∷ 68 ∷ 69 ∷ 70 ∷ 32 ∷ 52 ∷ 48 ∷ 32 ∷ 49 ∷ 32 ∷ 65 ∷ 65 ∷ 10 ∷ []
unfolding item_line front_text place_text shown_text bus_text decimal_of decimals fixed_of capital_of field_text time_text can_text id_digits hex_text can_fd
can-fd = refl

-- "  5.000000001 - CANFD 9 123 - 1 00"
can_fd_standard : item_line None five (made None (Ident.Can 0x40000123) true) (0x00 ∷ []) ≡ 32 ∷ 32 ∷ 53 ∷ 46 ∷ 48 ∷ 48 ∷ 48 ∷ 48 ∷ 48 ∷ 48 ∷ 48 ∷ 48 ∷ 49 ∷ 32 ∷ 45 ∷ 32 ∷ 67 ∷ 65 ∷ 78 ∷ 70 ∷ 68 ∷ 32 ∷ 57 ∷ 32 ∷ 49 ∷ 50 ∷ 51 ∷ 32 ∷ 45 ∷ 32 ∷ 49 ∷ 32 ∷ 48 ∷ 48 ∷ 10 ∷ []
unfolding item_line front_text place_text shown_text bus_text decimal_of decimals fixed_of capital_of field_text time_text can_text id_digits hex_text can_fd
can_fd_standard = refl

-- "  5.000000001 - CAN 9 0A3 - 2 01F2"
can : item_line None five (made None (Ident.Can 0xa3) true) (0x01 ∷ 0xf2 ∷ []) ≡ 32 ∷ 32 ∷ 53 ∷ 46 ∷ 48 ∷ 48 ∷ 48 ∷ 48 ∷ 48 ∷ 48 ∷ 48 ∷ 48 ∷ 49 ∷ 32 ∷ 45 ∷ 32 ∷ 67 ∷ 65 ∷ 78 ∷ 32 ∷ 57 ∷ 32 ∷ 48 ∷ 65 ∷ 51 ∷ 32 ∷ 45 ∷ 32 ∷ 50 ∷ 32 ∷ 48 ∷ 49 ∷ 70 ∷ 50 ∷ 10 ∷ []
unfolding item_line front_text place_text shown_text bus_text decimal_of decimals fixed_of capital_of field_text time_text can_text id_digits hex_text can_fd
can = refl

-- "  5.000000001 - LIN 9 7D 00 1 FF"
lin : item_line None five (made (Some 0) (Ident.Lin 0x7d) true) (0xff ∷ []) ≡ 32 ∷ 32 ∷ 53 ∷ 46 ∷ 48 ∷ 48 ∷ 48 ∷ 48 ∷ 48 ∷ 48 ∷ 48 ∷ 48 ∷ 49 ∷ 32 ∷ 45 ∷ 32 ∷ 76 ∷ 73 ∷ 78 ∷ 32 ∷ 57 ∷ 32 ∷ 55 ∷ 68 ∷ 32 ∷ 48 ∷ 48 ∷ 32 ∷ 49 ∷ 32 ∷ 70 ∷ 70 ∷ 10 ∷ []
unfolding item_line front_text place_text shown_text bus_text decimal_of decimals fixed_of capital_of field_text time_text hex_text
lin = refl

-- "  5.000000001 - FLEXRAY 9 AB:1027:63 - 0 -"
flexray : item_line None five (made None (Ident.FlexRay 3 1027 63) true) [] ≡ 32 ∷ 32 ∷ 53 ∷ 46 ∷ 48 ∷ 48 ∷ 48 ∷ 48 ∷ 48 ∷ 48 ∷ 48 ∷ 48 ∷ 49 ∷ 32 ∷ 45 ∷ 32 ∷ 70 ∷ 76 ∷ 69 ∷ 88 ∷ 82 ∷ 65 ∷ 89 ∷ 32 ∷ 57 ∷ 32 ∷ 65 ∷ 66 ∷ 58 ∷ 49 ∷ 48 ∷ 50 ∷ 55 ∷ 58 ∷ 54 ∷ 51 ∷ 32 ∷ 45 ∷ 32 ∷ 48 ∷ 32 ∷ 45 ∷ 10 ∷ []
unfolding item_line front_text place_text shown_text bus_text decimal_of decimals fixed_of capital_of field_text time_text flexray_text channels_text
flexray = refl

-- "  5.000000001 - FLEXRAY 9 B:-:- 05 - -": a payload that the item does not carry is not shown
error : item_line None five (made (Some 5) (Ident.FlexRayError 2) false) (0xff ∷ []) ≡ 32 ∷ 32 ∷ 53 ∷ 46 ∷ 48 ∷ 48 ∷ 48 ∷ 48 ∷ 48 ∷ 48 ∷ 48 ∷ 48 ∷ 49 ∷ 32 ∷ 45 ∷ 32 ∷ 70 ∷ 76 ∷ 69 ∷ 88 ∷ 82 ∷ 65 ∷ 89 ∷ 32 ∷ 57 ∷ 32 ∷ 66 ∷ 58 ∷ 45 ∷ 58 ∷ 45 ∷ 32 ∷ 48 ∷ 53 ∷ 32 ∷ 45 ∷ 32 ∷ 45 ∷ 10 ∷ []
unfolding item_line front_text place_text shown_text bus_text decimal_of decimals fixed_of capital_of field_text time_text error_text channels_text hex_text
error = refl

-- "  5.000000001 - CAN 9 - 80 - -"
bare : item_line None five (made (Some 0x80) (Ident.Bare Kind.Can) false) [] ≡ 32 ∷ 32 ∷ 53 ∷ 46 ∷ 48 ∷ 48 ∷ 48 ∷ 48 ∷ 48 ∷ 48 ∷ 48 ∷ 48 ∷ 49 ∷ 32 ∷ 45 ∷ 32 ∷ 67 ∷ 65 ∷ 78 ∷ 32 ∷ 57 ∷ 32 ∷ 45 ∷ 32 ∷ 56 ∷ 48 ∷ 32 ∷ 45 ∷ 32 ∷ 45 ∷ 10 ∷ []
unfolding item_line front_text place_text shown_text bus_text decimal_of decimals fixed_of capital_of field_text time_text hex_text
bare = refl

-- " -", " 0", " -1", " -2", " 1", " 48000", " -4147200000", " -"
abbrev at : ℕ → ℕ → Time
at s n = record { sec = s; nano = n }

positions : position_text None five ∷ position_text (Some (at 5 1)) five ∷ position_text (Some (at 5 2)) five ∷ position_text (Some (at 5 20835)) five ∷ position_text (Some (at 4 999979167)) five ∷ position_text (Some (at 4 1)) five ∷ position_text (Some (at 86405 1)) five ∷ position_text (Some (at 86405 2)) five ∷ []
    ≡ (32 ∷ 45 ∷ []) ∷ (32 ∷ 48 ∷ []) ∷ (32 ∷ 45 ∷ 49 ∷ []) ∷ (32 ∷ 45 ∷ 50 ∷ []) ∷ (32 ∷ 49 ∷ []) ∷ (32 ∷ 52 ∷ 56 ∷ 48 ∷ 48 ∷ 48 ∷ []) ∷ (32 ∷ 45 ∷ 52 ∷ 49 ∷ 52 ∷ 55 ∷ 50 ∷ 48 ∷ 48 ∷ 48 ∷ 48 ∷ 48 ∷ []) ∷ (32 ∷ 45 ∷ []) ∷ []
unfolding signed_text sample_of placed_of decimal_of decimals
positions = refl

-- "frame 255 5.000000001 30"
frame : frame_line (record { sequence = 255; time = five; length = 30 }) ≡ 102 ∷ 114 ∷ 97 ∷ 109 ∷ 101 ∷ 32 ∷ 50 ∷ 53 ∷ 53 ∷ 32 ∷ 53 ∷ 46 ∷ 48 ∷ 48 ∷ 48 ∷ 48 ∷ 48 ∷ 48 ∷ 48 ∷ 48 ∷ 49 ∷ 32 ∷ 51 ∷ 48 ∷ 10 ∷ []
unfolding frame_line decimal_of decimals fixed_of capital_of field_text time_text
frame = refl

-- "start 16.000000000"
start : start_line (record { sec = 16; nano = 0 }) ≡ 115 ∷ 116 ∷ 97 ∷ 114 ∷ 116 ∷ 32 ∷ 49 ∷ 54 ∷ 46 ∷ 48 ∷ 48 ∷ 48 ∷ 48 ∷ 48 ∷ 48 ∷ 48 ∷ 48 ∷ 48 ∷ 10 ∷ []
unfolding start_line decimal_of decimals fixed_of capital_of field_text time_text
start = refl

-- "start 0.294967295": no time of a recording has so many nanoseconds
late : start_line (record { sec = 0; nano = 4294967295 }) ≡ 115 ∷ 116 ∷ 97 ∷ 114 ∷ 116 ∷ 32 ∷ 48 ∷ 46 ∷ 50 ∷ 57 ∷ 52 ∷ 57 ∷ 54 ∷ 55 ∷ 50 ∷ 57 ∷ 53 ∷ 10 ∷ []
unfolding start_line decimal_of decimals fixed_of capital_of field_text time_text
late = refl

-- "refused 1 22"
refused : refused_line 1 22 ≡ 114 ∷ 101 ∷ 102 ∷ 117 ∷ 115 ∷ 101 ∷ 100 ∷ 32 ∷ 49 ∷ 32 ∷ 50 ∷ 50 ∷ 10 ∷ []
unfolding row_of field_text decimal_of decimals
refused = refl

-- "refused 2 77", of a field whose refusal has a number that none of the others has; nothing of its body is shown
other_refused : found_lines None 2 3 (Err (RecordError.Other 77)) (1 ∷ []) ≡ (114 ∷ 101 ∷ 102 ∷ 117 ∷ 115 ∷ 101 ∷ 100 ∷ 32 ∷ 50 ∷ 32 ∷ 55 ∷ 55 ∷ 10 ∷ []) ∷ []
unfolding row_of field_text decimal_of decimals
other_refused = refl

-- "skipped 9 65535"
skipped : skipped_line 9 65535 ≡ 115 ∷ 107 ∷ 105 ∷ 112 ∷ 112 ∷ 101 ∷ 100 ∷ 32 ∷ 57 ∷ 32 ∷ 54 ∷ 53 ∷ 53 ∷ 51 ∷ 53 ∷ 10 ∷ []
unfolding row_of field_text decimal_of decimals
skipped = refl

-- "end 0 4294967295"
end : end_line 0 4294967295 ≡ 101 ∷ 110 ∷ 100 ∷ 32 ∷ 48 ∷ 32 ∷ 52 ∷ 50 ∷ 57 ∷ 52 ∷ 57 ∷ 54 ∷ 55 ∷ 50 ∷ 57 ∷ 53 ∷ 10 ∷ []
unfolding row_of field_text decimal_of decimals
end = refl

-- "note "
empty_note : note_line [] ≡ 110 ∷ 111 ∷ 116 ∷ 101 ∷ 32 ∷ 10 ∷ []
unfolding note_line
empty_note = refl

-- "note \x1f ~\x7f\x5c"
note : note_line (0x1f ∷ 0x20 ∷ 0x7e ∷ 0x7f ∷ 0x5c ∷ []) ≡ 110 ∷ 111 ∷ 116 ∷ 101 ∷ 32 ∷ 92 ∷ 120 ∷ 49 ∷ 102 ∷ 32 ∷ 126 ∷ 92 ∷ 120 ∷ 55 ∷ 102 ∷ 92 ∷ 120 ∷ 53 ∷ 99 ∷ 10 ∷ []
unfolding note_line escape_of plain letter_of
note = refl

-- "note \x00[]\xff"
high : note_line (0x00 ∷ 0x5b ∷ 0x5d ∷ 0xff ∷ []) ≡ 110 ∷ 111 ∷ 116 ∷ 101 ∷ 32 ∷ 92 ∷ 120 ∷ 48 ∷ 48 ∷ 91 ∷ 93 ∷ 92 ∷ 120 ∷ 102 ∷ 102 ∷ 10 ∷ []
unfolding note_line escape_of plain letter_of
high = refl
