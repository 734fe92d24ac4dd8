-- An item as bytes (docs/RULES.md, "Frame bytes"; Specification of Bus Mirroring, 7.4.2.2).
use Rattle.std.specs.Prelude.{ℕ, ◌+◌, ◌*◌, ◌/◌, ◌%◌, Bool, true, false, ◌&&◌, ◌||◌, List, [], ◌∷◌, ◌++◌, length, leb, eqb, Option, Some, None}
use Rattle.codec.specs.Choice.{bit}
use Rattle.codec.specs.Number.{be}
use Rattle.codec.specs.Ident.{network_type, kind_of, ident_bytes, ident_bit, ident_ok, most_of}
use Rattle.codec.specs.declared.ident.Kind.{Kind}
use Rattle.codec.specs.declared.ident.Ident.{Ident}
use Rattle.codec.specs.declared.item.Item.{Item}

abbrev pub state_bytes : Option ℕ → List ℕ
state_bytes (Some b) = b ∷ []
state_bytes None = []

abbrev pub state_bit : Option ℕ → ℕ
state_bit (Some b) = 1
state_bit None = 0

-- which of state, id and payload are present
abbrev pub set_of : Option ℕ → Ident → Bool → ℕ
set_of state ident carries = state_bit state * 4 + ident_bit ident * 2 + bit carries

-- id and payload; state, id and payload; state and id; state alone
abbrev pub set_ok : ℕ → Bool
set_ok set = eqb set 3 || eqb set 7 || eqb set 6 || eqb set 4

-- state and id alone
abbrev pub alone_in : ℕ → Bool
alone_in set = eqb set 6

-- any of the four with each id, but state and id alone with an error without a frame (SWS_Mirror_00091 to 00093)
abbrev pub set_for : Ident → ℕ → Bool
set_for (Ident.Can key) set = set_ok set
set_for (Ident.Lin pid) set = set_ok set
set_for (Ident.FlexRay channels slot cycle) set = set_ok set
set_for (Ident.FlexRayError channels) set = alone_in set
set_for (Ident.Bare k) set = set_ok set

-- bits 5 and 4 of a LIN state are zero (SWS_Mirror_00084); other state bits are not judged
unfoldable pub lin_zero : ℕ → Bool
lin_zero b = eqb (b / 16 % 4) 0

abbrev pub shown_ok : Kind → ℕ → Bool
shown_ok Kind.Can b = true
shown_ok Kind.Lin b = lin_zero b
shown_ok Kind.FlexRay b = true

abbrev pub state_ok : Kind → Option ℕ → Bool
state_ok k (Some b) = shown_ok k b
state_ok k None = true

-- a payload of n bytes where one is carried, none where not
abbrev pub load_ok : Bool → ℕ → ℕ → Bool
load_ok true most n = leb n most
load_ok false most n = eqb n 0

-- an item that may stand in a frame, with a payload of n bytes
unfoldable pub item_ok : Item → ℕ → Bool
item_ok it n =
    set_for it.ident (set_of it.state it.ident it.carries) && state_ok (kind_of it.ident) it.state && ident_ok it.ident
    && load_ok it.carries (most_of it.ident) n

-- state-present in bit 7, id-present in bit 6, payload-present in bit 5, network type in bits 4 to 0
-- (SWS_Mirror_00067 to 00074)
abbrev pub flags_of : Item → ℕ
flags_of it = set_of it.state it.ident it.carries * 32 + network_type (kind_of it.ident)

abbrev pub load_bytes : Bool → List ℕ → List ℕ
load_bytes true pl = length pl ∷ pl
load_bytes false pl = []

abbrev pub load_length : Bool → ℕ → ℕ
load_length true n = 1 + n
load_length false n = 0

-- offset, flags, network id; then what is present of state, frame id, payload length and payload
-- (SWS_Mirror_00064)
unfoldable pub encode : Item → List ℕ → List ℕ
encode it pl =
    be 2 it.offset.0 ++ (flags_of it ∷ it.network ∷ []) ++ state_bytes it.state ++ ident_bytes it.ident ++ load_bytes it.carries pl

-- how many bytes that is, with a payload of n bytes
abbrev pub item_length : Item → ℕ → ℕ
item_length it n = 4 + length (state_bytes it.state) + length (ident_bytes it.ident) + load_length it.carries n
