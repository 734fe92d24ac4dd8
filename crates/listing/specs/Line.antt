-- How each line of a listing reads: words, each after a space (32), and a line feed (10).
use Rattle.std.specs.Prelude.{ℕ, zero, suc, ◌/◌, ◌%◌, ◌^◌, Option, Some, None, Result, Ok, Err, Bool, true, false, ◌&&◌, not, List, [], ◌∷◌, ◌++◌, length, leb, eqb, ℤ, pos, negsuc, nat_abs}
use Rattle.codec.specs.Choice.{pick}
use Rattle.codec.specs.Ident.{kind_of, can_fd}
use Rattle.codec.specs.declared.time.Time.{Time}
use Rattle.codec.specs.declared.header.Header.{Header}
use Rattle.codec.specs.declared.ident.Kind.{Kind}
use Rattle.codec.specs.declared.ident.Ident.{Ident}
use Rattle.codec.specs.declared.item.Item.{Item}
use Rattle.tape.specs.Sample.{position_of}
use Rattle.tape.specs.declared.sample.TooFar.{TooFar}
use Rattle.text.specs.Put.{capital_of, decimal_of, hexes}
use Rattle.text.specs.Draft.{field_text, row_of}

-- the n low digits of v in a base, leading zeros shown
unfoldable pub fixed_of : ℕ → ℕ → ℕ → List ℕ
fixed_of base zero v = []
fixed_of base (suc n) v = fixed_of base n (v / base) ++ (capital_of (v % base) ∷ [])

-- what f makes of each byte, one after the other
abbrev pub spread : (ℕ → List ℕ) → List ℕ → List ℕ
spread f [] = []
spread f (b ∷ bs) = f b ++ spread f bs

-- n hexadecimal digits
unfoldable pub hex_text : ℕ → ℕ → List ℕ
hex_text n v = 32 ∷ fixed_of 16 n v

-- '-' (45) for what is not there
abbrev pub dash : List ℕ
dash = 32 ∷ 45 ∷ []

-- TIME: the seconds, a point (46), and the last nine digits of the nanoseconds
unfoldable pub time_text : Time → List ℕ
time_text t = field_text t.sec ++ (46 ∷ []) ++ fixed_of 10 9 t.nano

-- a minus sign (45) before the digits of a number below zero
abbrev pub sign_text : ℤ → List ℕ
sign_text (pos n) = 32 ∷ []
sign_text (negsuc n) = 32 ∷ 45 ∷ []

unfoldable pub signed_text : ℤ → List ℕ
signed_text z = sign_text z ++ decimal_of (nat_abs z)

abbrev pub placed_text : Result ℤ TooFar → List ℕ
placed_text (Ok n) = signed_text n
placed_text (Err why) = dash

-- POSITION: from the latest good start; '-' before one, and where 61 applies
abbrev pub position_text : Option Time → Time → List ℕ
position_text None t = dash
position_text (Some start) t = placed_text (position_of start t)

-- "CAN", "LIN", "FLEXRAY"
abbrev pub kind_text : Kind → List ℕ
kind_text Kind.Can = 32 ∷ 67 ∷ 65 ∷ 78 ∷ []
kind_text Kind.Lin = 32 ∷ 76 ∷ 73 ∷ 78 ∷ []
kind_text Kind.FlexRay = 32 ∷ 70 ∷ 76 ∷ 69 ∷ 88 ∷ 82 ∷ 65 ∷ 89 ∷ []

-- bit 30 of a CAN key; an item without an id does not tell
abbrev pub is_fd : Ident → Bool
is_fd (Ident.Can key) = can_fd key
is_fd (Ident.Lin pid) = false
is_fd (Ident.FlexRay channels slot cycle) = false
is_fd (Ident.FlexRayError channels) = false
is_fd (Ident.Bare k) = false

-- BUS: its kind, and "FD" for CAN FD
unfoldable pub bus_text : Ident → List ℕ
bus_text id = kind_text (kind_of id) ++ pick (is_fd id) (70 ∷ 68 ∷ []) []

-- eight digits for an extended id, which bit 31 of a CAN key tells, three for a standard one
unfoldable pub id_digits : ℕ → ℕ
id_digits key = pick (eqb (key / 2 ^ 31) 1) 8 3

-- the id without the bits of its type
unfoldable pub can_text : ℕ → List ℕ
can_text key = hex_text (id_digits key) (key % 2 ^ 29)

-- "A", "B", "AB" for channels 1, 2, 3
unfoldable pub channels_text : ℕ → List ℕ
channels_text c = (32 ∷ []) ++ pick (eqb (c % 2) 1) (65 ∷ []) [] ++ pick (eqb (c / 2 % 2) 1) (66 ∷ []) []

-- CHANNELS:SLOT:CYCLE
unfoldable pub flexray_text : ℕ → ℕ → ℕ → List ℕ
flexray_text c slot cycle = channels_text c ++ (58 ∷ []) ++ decimal_of slot ++ (58 ∷ []) ++ decimal_of cycle

-- CHANNELS:-:- for an error without a frame
unfoldable pub error_text : ℕ → List ℕ
error_text c = channels_text c ++ (58 ∷ 45 ∷ 58 ∷ 45 ∷ [])

-- ID: a CAN id, the two digits of a LIN PID, FlexRay's
abbrev pub ident_text : Ident → List ℕ
ident_text (Ident.Can key) = can_text key
ident_text (Ident.Lin pid) = hex_text 2 pid
ident_text (Ident.FlexRay channels slot cycle) = flexray_text channels slot cycle
ident_text (Ident.FlexRayError channels) = error_text channels
ident_text (Ident.Bare k) = dash

-- STATE: two digits
abbrev pub state_text : Option ℕ → List ℕ
state_text (Some b) = hex_text 2 b
state_text None = dash

-- LENGTH of a payload, where the item carries one
abbrev pub load_text : Bool → ℕ → List ℕ
load_text true n = field_text n
load_text false n = dash

-- BYTES: two digits for each
abbrev pub bytes_text : List ℕ → List ℕ
bytes_text [] = 45 ∷ []
bytes_text (b ∷ bs) = spread (fixed_of 16 2) (b ∷ bs)

-- "  TIME POSITION BUS NETWORK"
unfoldable pub place_text : Option Time → Time → Item → List ℕ
place_text m t it = (32 ∷ []) ++ time_text t ++ position_text m t ++ bus_text it.ident ++ field_text it.network

-- " ID STATE LENGTH "
unfoldable pub shown_text : Item → ℕ → List ℕ
shown_text it n = ident_text it.ident ++ state_text it.state ++ load_text it.carries n ++ (32 ∷ [])

unfoldable pub front_text : Option Time → Time → Item → ℕ → List ℕ
front_text m t it n = place_text m t it ++ shown_text it n

-- "  TIME POSITION BUS NETWORK ID STATE LENGTH BYTES"
unfoldable pub item_line : Option Time → Time → Item → List ℕ → List ℕ
item_line m t it bs = front_text m t it (length bs) ++ bytes_text (pick it.carries bs []) ++ (10 ∷ [])

-- "frame SEQUENCE TIME DATALENGTH"
unfoldable pub frame_line : Header → List ℕ
frame_line h = (102 ∷ 114 ∷ 97 ∷ 109 ∷ 101 ∷ []) ++ field_text h.sequence ++ time_text h.time ++ field_text h.length ++ (10 ∷ [])

-- "start TIME"
unfoldable pub start_line : Time → List ℕ
start_line t = (115 ∷ 116 ∷ 97 ∷ 114 ∷ 116 ∷ []) ++ time_text t ++ (10 ∷ [])

-- "refused TAG ANSWER"
abbrev pub refused_line : ℕ → ℕ → List ℕ
refused_line tag answer = row_of (114 ∷ 101 ∷ 102 ∷ 117 ∷ 115 ∷ 101 ∷ 100 ∷ []) (tag ∷ answer ∷ [])

-- "skipped TAG LENGTH"
abbrev pub skipped_line : ℕ → ℕ → List ℕ
skipped_line tag n = row_of (115 ∷ 107 ∷ 105 ∷ 112 ∷ 112 ∷ 101 ∷ 100 ∷ []) (tag ∷ n ∷ [])

-- "end ANSWER SKIPPED"
abbrev pub end_line : ℕ → ℕ → List ℕ
end_line answer skipped = row_of (101 ∷ 110 ∷ 100 ∷ []) (answer ∷ skipped ∷ [])

-- printable ASCII but the backslash (92)
unfoldable pub plain : ℕ → Bool
plain b = leb 32 b && leb b 126 && not (eqb b 92)

-- a byte as it is, or \xHH (92, 120) with lower-case digits
unfoldable pub escape_of : ℕ → List ℕ
escape_of b = pick (plain b) (b ∷ []) (92 ∷ 120 ∷ hexes (b ∷ []))

-- the text so written finds room
unfoldable pub note_fits : List ℕ → ℕ → Bool
note_fits bs room = leb (length (spread escape_of bs)) room

-- "note TEXT"
unfoldable pub note_line : List ℕ → List ℕ
note_line bs = (110 ∷ 111 ∷ 116 ∷ 101 ∷ 32 ∷ []) ++ spread escape_of bs ++ (10 ∷ [])
