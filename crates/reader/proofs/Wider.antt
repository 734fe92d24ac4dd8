-- Every frame of the narrow layout, in which each FlexRay id is a frame's, is accepted with the same items; and what is accepted on
-- top are exactly the frames that hold an error without a frame, which the narrow layout refuses with 25. Assumes nothing.
use Prim.Native.Nat.{ℕ, zero, suc, ◌-◌}
use mathlib.Core.Path.{◌≡◌, refl, sym, ◌∙◌, ap}
use mathlib.Core.Logic.{inl, inr}
use mathlib.Core.Bool.{Bool, true, false, ◌||◌}
use mathlib.Core.List.{List, [], ◌∷◌}
use lib.ListN.{length}
use lib.Dec.{eqb}
use Rattle.std.specs.Prelude.{Result, Ok, Err, ⊤}
use Rattle.codec.specs.Choice.{pick, then, bit}
use Rattle.codec.specs.Number.{Bytes}
use Rattle.codec.specs.Field.{read_item, bytes_at}
use Rattle.codec.specs.Header.{read_header}
use Rattle.codec.specs.Layout.{Entry, AllValid}
use Rattle.codec.specs.declared.refusal.Refusal.{Refusal}
use Rattle.codec.specs.declared.field.Decoded.{Decoded}
use Rattle.codec.specs.declared.header.Header.{Header}
use Rattle.codec.proofs.Opened.{never}
use Rattle.codec.proofs.Narrow.{narrow_item, is_error, Wider, item_wider, ErrorEntry, error_entry}
use Rattle.reader.specs.Frame.{resolved, along, walk_of, items_of, judge_of}
use Rattle.reader.proofs.FrameLaws.{judged_clean, accepted}
use Rattle.reader.proofs.Theorems.{accepts}

-- along the items of the narrow layout
unfoldable pub narrow_along : {A : Type 0} → A → (Refusal → A) → (ℕ → Decoded → A → A) → ℕ → List ℕ → ℕ → A
narrow_along done bad more zero s at = done
narrow_along done bad more (suc n) s at =
    pick (eqb at (length s)) done
    (resolved (narrow_item s at) (λ d. more at d (narrow_along done bad more n s d.next)) bad)

-- its reader: the header first, then the items from place 14
unfoldable pub narrow_judge : List ℕ → Result Header Refusal
narrow_judge s =
    then (read_header s) (λ h. then (narrow_along (Ok (tt {0})) Err (λ place d rest. rest) (length s - 14) s 14) (λ clean. Ok h))

unfoldable pub narrow_items : List ℕ → List Entry
narrow_items s =
    narrow_along [] (λ why. []) (λ here d rest. record { item = d.item; payload = bytes_at s d.start d.len } ∷ rest) (length s - 14) s 14

-- an error without a frame is among the items
abbrev pub any_error : List Entry → Bool
any_error [] = false
any_error (e ∷ es) = is_error e.item.ident || any_error es

-- each such item has channels, a state and nothing else
abbrev pub Errors : List Entry → Type 0
Errors [] = Unit
Errors (e ∷ es) = (is_error e.item.ident ≡ true → ErrorEntry e) × Errors es

module _ (s : List ℕ) where
  abbrev Rest : Type 0 → Type 0
  Rest A = ℕ → Decoded → A → A

  abbrev skip : Rest (Result ⊤ Refusal)
  skip place d rest = rest

  abbrev keep : Rest (List Entry)
  keep here d rest = record { item = d.item; payload = bytes_at s d.start d.len } ∷ rest

  abbrev walk : ℕ → ℕ → Result ⊤ Refusal
  walk n at = along (Ok tt) Err skip n s at

  abbrev items : ℕ → ℕ → List Entry
  items n at = along [] (λ why. []) keep n s at

  abbrev narrow : ℕ → ℕ → Result ⊤ Refusal
  narrow n at = narrow_along (Ok tt) Err skip n s at

  abbrev narrows : ℕ → ℕ → List Entry
  narrows n at = narrow_along [] (λ why. []) keep n s at

  -- from a place on: what the narrow layout has is read the same
  record Same (n at : ℕ) : Type 0 where
    pub clean : walk n at ≡ Ok tt
    pub same : items n at ≡ narrows n at
    pub none : any_error (items n at) ≡ false

  stays : (n at : ℕ) → narrow n at ≡ Ok tt → Same n at
  unfolding along narrow_along
  stays zero at e = record { clean = refl; same = refl; none = refl }
  stays (suc n) at e = go (stays n) (eqb at (length s)) refl (narrow_item s at) refl (read_item s at) refl (item_wider s at)
    where
      go : ((next : ℕ) → narrow n next ≡ Ok tt → Same n next) → (t : Bool) → eqb at (length s) ≡ t
          → (x : Result Decoded Refusal) → narrow_item s at ≡ x → (y : Result Decoded Refusal) → read_item s at ≡ y → Wider x y → Same (suc n) at
      go on true q x p y r w = record { clean = simp q; same = simp q; none = simp q }
      go on false q (Err why) p y r w = let z : ◌≡◌ {A = Result ⊤ Refusal} (Err why) (Ok tt) = rw (q, p) at e in never (cc)
      go on false q (Ok d) p y r (inl (i, u)) =
          let k = on d.next (rw (q, p) at e) in
          let g : read_item s at ≡ Ok d = r ∙ sym i in
          let v : is_error d.item.ident ≡ false = rw (← i) at u in
          record {
            clean = rw (q, g) k.clean;
            same = rw (q, g, p) (ap (λ (l : List Entry). record { item = d.item; payload = bytes_at s d.start d.len } ∷ l) k.same);
            none = rw (q, g, v) k.none;
          }
      go on false q (Ok d) p y r (inr (i, u)) = never (cc)

  -- and what is read besides, the narrow layout refuses with 25
  abbrev Adds : ℕ → ℕ → Type 0
  Adds n at =
      (any_error (items n at) ≡ false → narrow n at ≡ Ok tt) × (any_error (items n at) ≡ true → narrow n at ≡ Err Refusal.Reserved)

  adds : (n at : ℕ) → walk n at ≡ Ok tt → Adds n at
  unfolding along narrow_along
  adds zero at e = (λ z. refl, λ z. never (ap bit z))
  adds (suc n) at e = go (adds n) (eqb at (length s)) refl (narrow_item s at) refl (read_item s at) refl (item_wider s at)
    where
      go : ((next : ℕ) → walk n next ≡ Ok tt → Adds n next) → (t : Bool) → eqb at (length s) ≡ t
          → (x : Result Decoded Refusal) → narrow_item s at ≡ x → (y : Result Decoded Refusal) → read_item s at ≡ y → Wider x y → Adds (suc n) at
      go on true q x p y r w = (λ z. simp q, λ z. never (ap bit (rw q at z)))
      go on false q x p (Err why) r w = let z : ◌≡◌ {A = Result ⊤ Refusal} (Err why) (Ok tt) = rw (q, r) at e in never (cc)
      go on false q x p (Ok d) r (inl (i, u)) =
          let k = on d.next (rw (q, r) at e) in
          let g : narrow_item s at ≡ Ok d = p ∙ i in
          (λ z. rw (q, g) (k.0 (rw (q, r, u) at z)), λ z. rw (q, g) (k.1 (rw (q, r, u) at z)))
      go on false q x p (Ok d) r (inr (i, u)) =
          let g : narrow_item s at ≡ Err Refusal.Reserved = p ∙ i in
          (λ z. never (sym (ap bit (rw (q, r, u) at z))), λ z. simp (q, g))

-- a frame of the narrow layout is accepted with the same header and the same items, none of them an error without a frame
pub stays_same : (s : List ℕ) {h : Header} → narrow_judge s ≡ Ok h
    → (judge_of s ≡ Ok h) × (items_of s 14 ≡ narrow_items s) × (any_error (items_of s 14) ≡ false)
unfolding narrow_judge narrow_items judge_of walk_of items_of
stays_same s e =
    let a = judged_clean (read_header s) _ e in
    let k = stays s (length s - 14) 14 a.1 in
    (rw (a.0, k.clean), k.same, k.none)

-- an accepted frame without such an error is one of the narrow layout, with the same header and items
pub none_new : (s : List ℕ) {h : Header} → judge_of s ≡ Ok h → any_error (items_of s 14) ≡ false
    → (narrow_judge s ≡ Ok h) × (narrow_items s ≡ items_of s 14)
unfolding narrow_judge walk_of items_of
none_new s {h} j z =
    let a = accepted s j in
    let j' : narrow_judge s ≡ Ok h = rw (a.0, (adds s (length s - 14) 14 a.1).0 z) in
    (j', sym (stays_same s j').1)

all_errors : (es : List Entry) → AllValid es → Errors es
all_errors [] v = tt
all_errors (e ∷ es) v = (error_entry e v.0, all_errors es v.1)

-- and an accepted frame with one is new: the narrow layout refuses it with 25, and each such item is what an error may be
pub just_errors : (s : List ℕ) → Bytes s → {h : Header} → judge_of s ≡ Ok h → any_error (items_of s 14) ≡ true
    → (narrow_judge s ≡ Err Refusal.Reserved) × Errors (items_of s 14)
unfolding narrow_judge walk_of items_of
just_errors s b j z =
    let a = accepted s j in
    (rw (a.0, (adds s (length s - 14) 14 a.1).1 z), all_errors (items_of s 14) (accepts s b j).valid)
