-- What stepping through a frame yields, and what a frame of the layout is.
use Rattle.std.specs.Prelude.{ℕ, zero, suc, ◌+◌, ◌≡◌, Bool, false, ◌||◌, List, [], ◌∷◌, length, eqb, Option, Some, None, Result, Ok, Err}
use Rattle.codec.specs.Time.{recovered_of}
use Rattle.codec.specs.Item.{encode}
use Rattle.codec.specs.Layout.{Entry, Head, AllValid, body, layout}
use Rattle.codec.specs.declared.time.Time.{Time}
use Rattle.codec.specs.declared.item.Item.{Item}
use Rattle.codec.specs.declared.header.Header.{Header}
use Rattle.codec.specs.declared.refusal.Refusal.{Refusal}
use Rattle.reader.specs.declared.place.Stepped.{Stepped}
use Rattle.reader.specs.Frame.{step_of, payload_of}

-- one step: the item, where it stands, where the next one does, its time and its payload
pub record Yield : Type 0 where
  pub place : ℕ
  pub next : ℕ
  pub time : Time
  pub item : Item
  pub payload : List ℕ

abbrev pub open_stepped : {A : Type 0} → Result (Option Stepped) Refusal → (Stepped → A) → A → A
open_stepped (Ok (Some step)) k z = k step
open_stepped (Ok None) k z = z
open_stepped (Err why) k z = z

-- stepping from a place on, n times at most, until the end or a refusal
unfoldable pub stepping : ℕ → List ℕ → ℕ → List Yield
stepping zero s at = []
stepping (suc n) s at =
    open_stepped (step_of s at)
    (λ step.
    record { place = at; next = step.next; time = step.time; item = step.item; payload = payload_of s at } ∷ stepping n s step.next)
    []

-- the items of a list one after the other from a place on, dated from a header time
abbrev pub listing : Time → ℕ → List Entry → List Yield
listing t at [] = []
listing t at (e ∷ es) =
    record {
      place = at;
      next = at + length (encode e.item e.payload);
      time = recovered_of t e.item.offset.0;
      item = e.item;
      payload = e.payload;
    }
    ∷ listing t (at + length (encode e.item e.payload)) es

-- the places of the items, and the end
abbrev pub places_of : ℕ → List Entry → List ℕ
places_of at [] = at ∷ []
places_of at (e ∷ es) = at ∷ places_of (at + length (encode e.item e.payload)) es

abbrev pub among : ℕ → List ℕ → Bool
among p [] = false
among p (x ∷ xs) = eqb x p || among p xs

-- s is the layout of a header and a list of valid items
pub record Framed (s : List ℕ) (h : Header) (es : List Entry) : Type 0 where
  pub head : Head h.sequence h.time es
  pub total : h.length ≡ length (body es)
  pub valid : AllValid es
  pub bytes : s ≡ layout h.sequence h.time es
