-- A frame: the header, then the items one after the other (docs/RULES.md, "Frame bytes"; Specification of Bus Mirroring, 7.4.2).
use Rattle.std.specs.Prelude.{ℕ, ◌^◌, ◌<◌, ◌≤◌, ◌≡◌, true, List, [], ◌∷◌, ◌++◌, length, Option, Some, None}
use Rattle.codec.specs.Number.{Bytes}
use Rattle.codec.specs.Header.{header_bytes}
use Rattle.codec.specs.Item.{encode, item_ok}
use Rattle.codec.specs.declared.time.Time.{Time}
use Rattle.codec.specs.declared.ident.Ident.{Ident}
use Rattle.codec.specs.declared.item.Item.{Item}

-- an item and the payload beside it
pub record Entry : Type 0 where
  pub item : Item
  pub payload : List ℕ

-- the items' bytes
abbrev pub body : List Entry → List ℕ
body [] = []
body (e ∷ es) = encode e.item e.payload ++ body es

-- DataLength is the total of the item lengths (SWS_Mirror_00062)
unfoldable pub layout : ℕ → Time → List Entry → List ℕ
layout sequence time es = header_bytes (record { sequence = sequence; time = time; length = length (body es) }) ++ body es

-- fields within their widths
abbrev pub StateFits : Option ℕ → Type 0
StateFits (Some b) = b < 256
StateFits None = Unit

abbrev pub IdentFits : Ident → Type 0
IdentFits (Ident.Can key) = key < 2 ^ 32
IdentFits (Ident.Lin pid) = pid < 256
IdentFits (Ident.FlexRay channels slot cycle) = Unit
IdentFits (Ident.FlexRayError channels) = Unit
IdentFits (Ident.Bare k) = Unit

-- an item that may stand in a frame
pub record Valid (e : Entry) : Type 0 where
  pub ok : item_ok e.item (length e.payload) ≡ true
  pub offset : e.item.offset.0 < 65536
  pub network : e.item.network < 256
  pub state : StateFits e.item.state
  pub ident : IdentFits e.item.ident
  pub payload : Bytes e.payload

abbrev pub AllValid : List Entry → Type 0
AllValid [] = Unit
AllValid (e ∷ es) = Valid e × AllValid es

-- a header that may stand before them
pub record Head (n : ℕ) (t : Time) (es : List Entry) : Type 0 where
  pub sequence : n < 256
  pub sec : t.sec ≤ 281474976710655
  pub nano : t.nano ≤ 999999999
  pub total : length (body es) ≤ 65535
