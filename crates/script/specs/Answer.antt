-- How each answer reads.
use Rattle.std.specs.Prelude.{ℕ, Bool, true, false, List, [], ◌∷◌, ◌++◌, Option, Some, None, Result, Ok, Err, eqb}
use Rattle.codec.specs.Choice.{pick}
use Rattle.codec.specs.Refusal.{number_of}
use Rattle.codec.specs.Ident.{network_type, kind_of}
use Rattle.codec.specs.declared.time.Time.{Time}
use Rattle.codec.specs.declared.ident.Ident.{Ident}
use Rattle.codec.specs.declared.item.Item.{Item}
use Rattle.text.specs.Put.{decimal_of, hex_of}
use Rattle.text.specs.Draft.{field_text}
use Rattle.reader.specs.Answer.{judged_number, judged_header}
use Rattle.codec.specs.declared.header.Header.{Header}
use Rattle.codec.specs.declared.refusal.Refusal.{Refusal}
use Rattle.reader.specs.declared.place.Stepped.{Stepped}

-- a space (32) and '-' (45) for what is not there
abbrev pub dash : List ℕ
dash = 32 ∷ 45 ∷ []

-- SEC NANO
unfoldable pub time_text : Time → List ℕ
time_text t = field_text t.sec ++ field_text t.nano

abbrev pub state_text : Option ℕ → List ℕ
state_text (Some b) = field_text b
state_text None = dash

-- CHANNELS/SLOT/CYCLE
unfoldable pub flexray_text : ℕ → ℕ → ℕ → List ℕ
flexray_text channels slot cycle = field_text channels ++ (47 ∷ []) ++ decimal_of slot ++ (47 ∷ []) ++ decimal_of cycle

-- CHANNELS/-/- for an error without a frame
unfoldable pub error_text : ℕ → List ℕ
error_text channels = field_text channels ++ (47 ∷ 45 ∷ 47 ∷ 45 ∷ [])

abbrev pub ident_text : Ident → List ℕ
ident_text (Ident.Can key) = field_text key
ident_text (Ident.Lin pid) = field_text pid
ident_text (Ident.FlexRay channels slot cycle) = flexray_text channels slot cycle
ident_text (Ident.FlexRayError channels) = error_text channels
ident_text (Ident.Bare k) = dash

abbrev pub load_text : Bool → ℕ → List ℕ
load_text true n = field_text n
load_text false n = dash

-- 0 NEXT SEC NANO
unfoldable pub placed_text : ℕ → Time → List ℕ
placed_text next t = (48 ∷ []) ++ field_text next ++ time_text t

-- KIND NETWORK STATE ID LENGTH
unfoldable pub item_text : Item → ℕ → List ℕ
item_text it n =
    field_text (network_type (kind_of it.ident)) ++ field_text it.network ++ state_text it.state ++ ident_text it.ident
    ++ load_text it.carries n

-- ANSWER SEQUENCE SEC NANO DATALENGTH, all 0 beside a refusal
unfoldable pub judged_text : Result Header Refusal → List ℕ
judged_text j =
    decimal_of (judged_number j) ++ field_text (judged_header j).sequence ++ time_text (judged_header j).time ++ field_text (judged_header j).length

-- an item, "0 end", or the refusal and eight times '-'
abbrev pub stepped_text : Result (Option Stepped) Refusal → List ℕ
stepped_text (Ok (Some s)) = placed_text s.next s.time ++ item_text s.item s.length
stepped_text (Ok None) = 48 ∷ 32 ∷ 101 ∷ 110 ∷ 100 ∷ []
stepped_text (Err why) = decimal_of (number_of why) ++ (dash ++ dash ++ dash ++ dash ++ dash ++ dash ++ dash ++ dash)

-- '?' (63) and the number of a line that is no call
unfoldable pub bad_text : ℕ → List ℕ
bad_text line = (63 ∷ []) ++ field_text line

-- ANSWER NUMBER
unfoldable pub numbered_text : ℕ → ℕ → List ℕ
numbered_text n v = decimal_of n ++ field_text v

-- ANSWER back N
unfoldable pub back_text : ℕ → ℕ → List ℕ
back_text n back = decimal_of n ++ (32 ∷ 98 ∷ 97 ∷ 99 ∷ 107 ∷ []) ++ field_text back

-- the same for a report or a tick whose clock was behind, else ANSWER alone
unfoldable pub timed_text : ℕ → ℕ → List ℕ
timed_text n back = pick (eqb back 0) (decimal_of n) (back_text n back)

-- ANSWER BYTES
unfoldable pub bytes_text : ℕ → List ℕ → List ℕ
bytes_text n bs = decimal_of n ++ (32 ∷ []) ++ hex_of bs

-- ANSWER LENGTH BYTES
unfoldable pub taken_text : ℕ → ℕ → List ℕ → List ℕ
taken_text n v bs = numbered_text n v ++ (32 ∷ []) ++ hex_of bs
