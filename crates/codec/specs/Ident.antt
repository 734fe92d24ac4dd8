-- Frame ids on the wire (docs/RULES.md, "Frame bytes"; Specification of Bus Mirroring, 7.4.2.2.5 and 7.4.2.2.8).
use Rattle.std.specs.Prelude.{ℕ, ◌+◌, ◌-◌, ◌*◌, ◌/◌, ◌%◌, ◌^◌, Bool, true, false, ◌&&◌, ◌||◌, List, [], ◌∷◌, leb, eqb, Result, Ok, Err}
use Rattle.std.specs.Int.Bits.{bit_xor}
use Rattle.codec.specs.Choice.{pick}
use Rattle.codec.specs.Number.{be}
use Rattle.codec.specs.declared.refusal.Refusal.{Refusal}
use Rattle.codec.specs.declared.ident.Kind.{Kind}
use Rattle.codec.specs.declared.ident.Ident.{Ident}

-- SWS_Mirror_00074, table 7.2
abbrev pub network_type : Kind → ℕ
network_type Kind.Can = 1
network_type Kind.Lin = 2
network_type Kind.FlexRay = 3

-- the kind of a network type (answer 24 where it names none)
unfoldable pub kind_in : ℕ → Result Kind Refusal
kind_in n =
    pick (eqb n 1) (Ok Kind.Can)
    (pick (eqb n 2) (Ok Kind.Lin)
    (pick (eqb n 3) (Ok Kind.FlexRay) (Err Refusal.Network)))

abbrev pub kind_of : Ident → Kind
kind_of (Ident.Can key) = Kind.Can
kind_of (Ident.Lin pid) = Kind.Lin
kind_of (Ident.FlexRay channels slot cycle) = Kind.FlexRay
kind_of (Ident.FlexRayError channels) = Kind.FlexRay
kind_of (Ident.Bare k) = k

-- CAN key: bit 31 extended, bit 30 FD, bit 29 zero, then the id, at most 2,047 standard (SWS_Mirror_00098 to 00101)
unfoldable pub can_zero : ℕ → Bool
can_zero key = eqb (key / 2 ^ 29 % 2) 0

unfoldable pub can_range : ℕ → Bool
can_range key = eqb (key / 2 ^ 31) 1 || leb (key % 2 ^ 29) 2047

unfoldable pub can_fd : ℕ → Bool
can_fd key = eqb (key / 2 ^ 30 % 2) 1

-- the exclusive or of four bits of a number
abbrev pub xor_of : ℕ → ℕ → ℕ → ℕ → ℕ → ℕ
xor_of n a b c d = bit_xor (bit_xor (bit_xor (n / 2 ^ a % 2) (n / 2 ^ b % 2)) (n / 2 ^ c % 2)) (n / 2 ^ d % 2)

-- LIN PID: bits 5 to 0 are the id, bit 6 is P0, the exclusive or of id bits 0, 1, 2 and 4
unfoldable pub even_parity : ℕ → ℕ
even_parity pid = xor_of pid 0 1 2 4

-- bit 7 is P1, the complement of that of id bits 1, 3, 4 and 5
unfoldable pub odd_parity : ℕ → ℕ
odd_parity pid = 1 - xor_of pid 1 3 4 5

-- and nothing else stands above the id: a number over 255 is no PID
unfoldable pub pid_ok : ℕ → Bool
pid_ok pid = eqb (pid / 2 ^ 6) (odd_parity pid * 2 + even_parity pid)

-- channels A 1, B 2, both 3 (SWS_Mirror_00105)
abbrev pub channels_ok : ℕ → Bool
channels_ok channels = leb 1 channels && leb channels 3

-- slot 1 to 2,047; cycle 0 to 63 (SWS_Mirror_00107)
unfoldable pub flexray_range : ℕ → ℕ → ℕ → Bool
flexray_range channels slot cycle = channels_ok channels && leb 1 slot && leb slot 2047 && leb cycle 63

-- channel B in bit 7, A in bit 6, bits 5 and 4 zero, bit 3 one, slot bits 10 to 8; slot bits 7 to 0; cycle
-- (table 7.8; SWS_Mirror_00105 to 00107, 00159)
abbrev pub flexray_bytes : ℕ → ℕ → ℕ → List ℕ
flexray_bytes channels slot cycle = (channels * 64 + 8 + slot / 256) ∷ (slot % 256) ∷ cycle ∷ []

-- an error of the channels without a frame: bit 3 zero, and no slot and no cycle, which are zero (SWS_Mirror_00091 to 00093, 00159)
abbrev pub error_bytes : ℕ → List ℕ
error_bytes channels = (channels * 64) ∷ 0 ∷ 0 ∷ []

-- four bytes for CAN, one for LIN, three for FlexRay (SWS_Mirror_00097, 00102, 00104)
abbrev pub ident_bytes : Ident → List ℕ
ident_bytes (Ident.Can key) = be 4 key
ident_bytes (Ident.Lin pid) = pid ∷ []
ident_bytes (Ident.FlexRay channels slot cycle) = flexray_bytes channels slot cycle
ident_bytes (Ident.FlexRayError channels) = error_bytes channels
ident_bytes (Ident.Bare k) = []

abbrev pub ident_bit : Ident → ℕ
ident_bit (Ident.Can key) = 1
ident_bit (Ident.Lin pid) = 1
ident_bit (Ident.FlexRay channels slot cycle) = 1
ident_bit (Ident.FlexRayError channels) = 1
ident_bit (Ident.Bare k) = 0

abbrev pub ident_ok : Ident → Bool
ident_ok (Ident.Can key) = can_zero key && can_range key
ident_ok (Ident.Lin pid) = pid_ok pid
ident_ok (Ident.FlexRay channels slot cycle) = flexray_range channels slot cycle
ident_ok (Ident.FlexRayError channels) = channels_ok channels
ident_ok (Ident.Bare k) = true

abbrev pub can_most : Bool → ℕ
can_most true = 64
can_most false = 8

-- payload at most 8 for CAN 2.0 and LIN, 64 for CAN FD, 254 for FlexRay; an error without a frame has none
abbrev pub most_of : Ident → ℕ
most_of (Ident.Can key) = can_most (can_fd key)
most_of (Ident.Lin pid) = 8
most_of (Ident.FlexRay channels slot cycle) = 254
most_of (Ident.FlexRayError channels) = 0
most_of (Ident.Bare k) = 0
