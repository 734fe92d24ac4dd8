-- Reading a frame (docs/RULES.md, "Reading a frame"): the verdict on the whole, then header, items and payloads.
use Rattle.std.specs.Prelude.{ℕ, zero, suc, ◌-◌, ◌≡◌, Bool, false, ◌||◌, List, [], ◌∷◌, length, leb, eqb, Option, Some, None, Result, Ok, Err, ⊤}
use Rattle.codec.specs.Choice.{pick, then}
use Rattle.codec.specs.Number.{over}
use Rattle.codec.specs.Time.{recovered_of}
use Rattle.codec.specs.Field.{read_item, bytes_at}
use Rattle.codec.specs.Header.{read_header, time_at}
use Rattle.codec.specs.Layout.{Entry, layout}
use Rattle.codec.specs.declared.time.Time.{Time}
use Rattle.codec.specs.declared.refusal.Refusal.{Refusal}
use Rattle.codec.specs.declared.field.Decoded.{Decoded}
use Rattle.codec.specs.declared.header.Header.{Header}
use Rattle.reader.specs.declared.place.Stepped.{Stepped}
use Rattle.reader.specs.declared.copy.RewriteError.{RewriteError}

-- what to do with what was got, and with a refusal
abbrev pub resolved : {T E A : Type 0} → Result T E → (T → A) → (E → A) → A
resolved (Ok x) k z = k x
resolved (Err why) k z = z why

-- Along the items from a place on, each where the one before it ends: `done` at the end of the bytes,
-- `bad` at the first refusal, `more` at an item with what the rest gives. At most n items.
unfoldable pub along : {A : Type 0} → A → (Refusal → A) → (ℕ → Decoded → A → A) → ℕ → List ℕ → ℕ → A
along done bad more zero s at = done
along done bad more (suc n) s at =
    pick (eqb at (length s)) done (resolved (read_item s at) (λ d. more at d (along done bad more n s d.next)) bad)

-- every item is good, or the first refusal
unfoldable pub walk_of : List ℕ → ℕ → Result ⊤ Refusal
walk_of s at = along (Ok tt) Err (λ place d rest. rest) (length s - at) s at

-- the place starts an item from `at` on, or is the end
unfoldable pub starts_of : List ℕ → ℕ → ℕ → Bool
starts_of s place at =
    along (eqb (length s) place) (λ why. false) (λ here d rest. eqb here place || rest) (length s - at) s at

-- the items from a place on, each with its payload
unfoldable pub items_of : List ℕ → ℕ → List Entry
items_of s at =
    along [] (λ why. []) (λ here d rest. record { item = d.item; payload = bytes_at s d.start d.len } ∷ rest) (length s - at) s at

-- no refusal from a place on
abbrev pub Clean : List ℕ → ℕ → Type 0
Clean s at = walk_of s at ≡ Ok tt

-- the header first, then the items from place 14
unfoldable pub judge_of : List ℕ → Result Header Refusal
judge_of s = then (read_header s) (λ h. then (walk_of s 14) (λ clean. Ok h))

-- the header time
abbrev pub time_in : List ℕ → Time
time_in s = time_at s 2

-- what stands at a place, the frame not judged: the end, or the item with its recovered time
unfoldable pub item_at_of : List ℕ → ℕ → Result (Option Stepped) Refusal
item_at_of s place =
    pick (eqb place (length s)) (Ok None)
    (then (read_item s place)
    (λ d. Ok (Some (record { next = d.next; time = recovered_of (time_in s) d.item.offset.0; item = d.item; length = d.len }))))

-- the payload of the item at a place, empty where there is none
unfoldable pub payload_at_of : List ℕ → ℕ → List ℕ
payload_at_of s place = resolved (read_item s place) (λ d. bytes_at s d.start d.len) (λ why. [])

-- 20 to 29, then 30 for a place that neither starts an item nor is the end
unfoldable pub step_of : List ℕ → ℕ → Result (Option Stepped) Refusal
step_of s place = then (judge_of s) (λ h. pick (starts_of s place 14) (item_at_of s place) (Err Refusal.Place))

-- the end, an item without payload, or a refusal shows an empty part
unfoldable pub payload_of : List ℕ → ℕ → List ℕ
payload_of s place = resolved (step_of s place) (λ found. payload_at_of s place) (λ why. [])

-- the yielded header and items laid out again
unfoldable pub laid_out : List ℕ → Header → List ℕ
laid_out s h = layout h.sequence h.time (items_of s 14)

-- the reader's refusal first, then 12
unfoldable pub rewrite_of : List ℕ → List ℕ → Result ℕ RewriteError
rewrite_of s out =
    resolved (judge_of s)
    (λ h. pick (leb (length s) (length out)) (Ok (length s)) (Err RewriteError.Small))
    (λ why. Err (RewriteError.Frame why))

-- the bytes at the front of the output; later output bytes stay, and all of them where it is refused
unfoldable pub rewritten_of : List ℕ → List ℕ → List ℕ
rewritten_of s out = resolved (judge_of s) (λ h. pick (leb (length s) (length out)) (over out 0 (laid_out s h)) out) (λ why. out)
