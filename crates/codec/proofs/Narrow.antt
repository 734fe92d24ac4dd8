-- The narrow layout, in which every FlexRay id is a frame's: a clear bit 3 gets 25 whatever the flags. Each item of it is read as the
-- same item now, and what is read on top are the errors without a frame and nothing else. Assumes nothing.
use Prim.Native.Nat.{ℕ, ◌+◌, ◌*◌, ◌/◌, ◌%◌, ◌≤◌}
use mathlib.Core.Path.{◌≡◌, refl, sym, ◌∙◌, ap}
use mathlib.Core.Logic.{◌⊎◌, inl, inr}
use mathlib.Core.Bool.{Bool, true, false, ◌&&◌}
use mathlib.Core.List.{List, [], ◌∷◌}
use native.Mathlib.Omega.{arith}
use lib.ListN.{length, get_or}
use lib.Dec.{eqb}
use borrow.Author.Tests.{eqb-true}
use Rattle.std.specs.Prelude.{Option, Some, None, Result, Ok, Err}
use Rattle.codec.specs.Choice.{pick, opened, then, bit}
use Rattle.codec.specs.Number.{get_of, part_of}
use Rattle.codec.specs.Ident.{can_zero, can_range, pid_ok, channels_ok, flexray_range, ident_ok, most_of}
use Rattle.codec.specs.Item.{alone_in, set_for, set_of, load_ok}
use Rattle.codec.specs.Field.{read_flags, read_state, can_ident, read_can, lin_ident, read_lin, read_flexray, frame_ident, error_ident, flexray_ident, read_ident, read_load, read_item}
use Rattle.codec.specs.Layout.{Entry, Valid}
use Rattle.codec.specs.declared.refusal.Refusal.{Refusal}
use Rattle.codec.specs.declared.ident.Kind.{Kind}
use Rattle.codec.specs.declared.ident.Ident.{Ident}
use Rattle.codec.specs.declared.item.Item.{Item}
use Rattle.codec.specs.declared.field.Load.{Load}
use Rattle.codec.specs.declared.field.Decoded.{Decoded}
use Rattle.codec.proofs.BoolLaws.{and_l}
use Rattle.codec.proofs.Opened.{never}
use Rattle.codec.proofs.ItemLaws.{ok-set, ok_load, ok_ident, channels_in}

-- 25 FlexRay bits 5 and 4 or a clear bit 3, then 29 channel, slot and cycle
unfoldable pub narrow_flexray : ℕ → ℕ → ℕ → ℕ → Result (Ident × ℕ) Refusal
narrow_flexray front low cycle next =
    pick (eqb (front / 8 % 8) 1)
    (pick (flexray_range (front / 64) (front % 8 * 256 + low) cycle)
    (Ok (Ident.FlexRay (front / 64) (front % 8 * 256 + low) cycle, next))
    (Err Refusal.Range))
    (Err Refusal.Reserved)

abbrev narrow_as : Kind → List ℕ → ℕ → Result (Ident × ℕ) Refusal
narrow_as Kind.Can s at = read_can s at
narrow_as Kind.Lin s at = read_lin s at
narrow_as Kind.FlexRay s at =
    opened (part_of s at 3)
    (λ next. narrow_flexray (get_or s at 0) (get_or s (at + 1) 0) (get_or s (at + 2) 0) next)
    (Err Refusal.Missing)

unfoldable pub narrow_ident : List ℕ → ℕ → Kind → Bool → Result (Ident × ℕ) Refusal
narrow_ident s at kind present = pick present (narrow_as kind s at) (Ok (Ident.Bare kind, at))

-- the item that fields and a payload make
abbrev item : ℕ → ℕ → Option ℕ → Ident → Bool → Item
item ticks network state ident carries =
    record { offset = record { 0 = ticks }; network = network; state = state; ident = ident; carries = carries }

abbrev decoded : Item → Load → Decoded
decoded it load = record { item = it; start = load.start; len = load.len; next = load.next }

-- offset, flags, network id, state, frame id, payload
unfoldable pub narrow_item : List ℕ → ℕ → Result Decoded Refusal
narrow_item s at =
    opened (get_of 2 s at) (λ (ticks, a).
    then (read_flags s a) (λ (kind, set, b).
    opened (get_of 1 s b) (λ (network, d).
    then (read_state s d kind (eqb (set / 4 % 2) 1)) (λ (state, e).
    then (narrow_ident s e kind (eqb (set / 2 % 2) 1)) (λ (ident, f).
    then (read_load s f (most_of ident) (eqb (set % 2) 1)) (λ load.
    Ok (decoded (item ticks network state ident (eqb (set % 2) 1)) load)))))
    (Err Refusal.Missing)))
    (Err Refusal.Missing)

-- the id of an error without a frame
abbrev pub is_error : Ident → Bool
is_error (Ident.Can key) = false
is_error (Ident.Lin pid) = false
is_error (Ident.FlexRay channels slot cycle) = false
is_error (Ident.FlexRayError channels) = true
is_error (Ident.Bare k) = false

-- what was read holds no error without a frame; or it is one, or refused for what such an error's id may not hold
abbrev pub Usual : Result Decoded Refusal → Type 0
Usual (Ok d) = is_error d.item.ident ≡ false
Usual (Err why) = Unit

abbrev pub New : Result Decoded Refusal → Type 0
New (Ok d) = is_error d.item.ident ≡ true
New (Err why) = why ≡ Refusal.Range

-- the same is read, or what got 25 is new
abbrev pub Wider : Result Decoded Refusal → Result Decoded Refusal → Type 0
Wider narrow wide = ((narrow ≡ wide) × Usual wide) ⊎ ((narrow ≡ Err Refusal.Reserved) × New wide)

-- the same of an id, which is new with state and id alone
abbrev UsualId : Result (Ident × ℕ) Refusal → Type 0
UsualId (Ok (ident, next)) = is_error ident ≡ false
UsualId (Err why) = Unit

abbrev NewId : Result (Ident × ℕ) Refusal → Type 0
NewId (Ok (ident, next)) = is_error ident ≡ true
NewId (Err why) = why ≡ Refusal.Range

abbrev WiderId : Bool → Result (Ident × ℕ) Refusal → Result (Ident × ℕ) Refusal → Type 0
WiderId alone narrow wide =
    ((narrow ≡ wide) × UsualId wide) ⊎ ((alone ≡ true) × (narrow ≡ Err Refusal.Reserved) × NewId wide)

usual_pick : (b : Bool) (x y : Result (Ident × ℕ) Refusal) → UsualId x → UsualId y → UsualId (pick b x y)
usual_pick true x y u v = u
usual_pick false x y u v = v

-- ids of CAN, LIN and a FlexRay frame are never new
can_usual : (s : List ℕ) (at : ℕ) → UsualId (read_can s at)
unfolding read_can can_ident
can_usual s at = go (get_of 4 s at)
  where
    go : (r : Option (ℕ × ℕ)) → UsualId (opened r (λ (key, next). can_ident key next) (Err Refusal.Missing))
    go (Some (key, n)) =
        usual_pick (can_zero key) _ _
        (usual_pick (can_range key) (Ok (Ident.Can key, n)) (Err Refusal.Range) refl tt) tt
    go None = tt

lin_usual : (s : List ℕ) (at : ℕ) → UsualId (read_lin s at)
unfolding read_lin lin_ident
lin_usual s at = go (get_of 1 s at)
  where
    go : (r : Option (ℕ × ℕ)) → UsualId (opened r (λ (pid, next). lin_ident pid next) (Err Refusal.Missing))
    go (Some (pid, n)) = usual_pick (pid_ok pid) (Ok (Ident.Lin pid, n)) (Err Refusal.Range) refl tt
    go None = tt

frame_usual : (channels slot cycle next : ℕ) → UsualId (frame_ident channels slot cycle next)
unfolding frame_ident
frame_usual channels slot cycle next =
    usual_pick (flexray_range channels slot cycle) (Ok (Ident.FlexRay channels slot cycle, next)) (Err Refusal.Range) refl tt

error_new : (channels slot cycle next : ℕ) → NewId (error_ident channels slot cycle next)
unfolding error_ident
error_new channels slot cycle next = go (channels_ok channels && eqb slot 0 && eqb cycle 0)
  where
    go : (b : Bool) → NewId (pick b (Ok (Ident.FlexRayError channels, next)) (Err Refusal.Range))
    go true = refl
    go false = refl

module _ (alone : Bool) (front low cycle next : ℕ) where
  abbrev slot : ℕ
  slot = front % 8 * 256 + low

  abbrev framed : Result (Ident × ℕ) Refusal
  framed =
      pick (flexray_range (front / 64) slot cycle) (Ok (Ident.FlexRay (front / 64) slot cycle, next)) (Err Refusal.Range)

  frame_is : framed ≡ frame_ident (front / 64) slot cycle next
  unfolding frame_ident
  frame_is = refl

  flexray_wider : WiderId alone (narrow_flexray front low cycle next) (flexray_ident alone front low cycle next)
  unfolding narrow_flexray flexray_ident
  flexray_wider = go (eqb (front / 8 % 8) 1) (alone && eqb (front / 8 % 8) 0) (and_l alone (eqb (front / 8 % 8) 0))
    where
      go : (b d : Bool) → (d ≡ true → alone ≡ true)
          → WiderId alone (pick b framed (Err Refusal.Reserved))
          (pick b (frame_ident (front / 64) slot cycle next) (pick d (error_ident (front / 64) slot cycle next) (Err Refusal.Reserved)))
      go true d a = inl (frame_is, frame_usual (front / 64) slot cycle next)
      go false true a = inr (a refl, refl, error_new (front / 64) slot cycle next)
      go false false a = inl (refl, tt)

ident_wider : (s : List ℕ) (at : ℕ) (kind : Kind) (present alone : Bool)
    → WiderId alone (narrow_ident s at kind present) (read_ident s at kind present alone)
unfolding narrow_ident read_ident read_flexray
ident_wider s at Kind.Can true alone = inl (refl, can_usual s at)
ident_wider s at Kind.Lin true alone = inl (refl, lin_usual s at)
ident_wider s at Kind.FlexRay true alone = go (part_of s at 3)
  where
    go : (r : Option ℕ) → WiderId alone
        (opened r (λ next. narrow_flexray (get_or s at 0) (get_or s (at + 1) 0) (get_or s (at + 2) 0) next) (Err Refusal.Missing))
        (opened r (λ next. flexray_ident alone (get_or s at 0) (get_or s (at + 1) 0) (get_or s (at + 2) 0) next) (Err Refusal.Missing))
    go (Some next) = flexray_wider alone (get_or s at 0) (get_or s (at + 1) 0) (get_or s (at + 2) 0) next
    go None = inl (refl, tt)
ident_wider s at kind false alone = inl (refl, refl)

-- what follows the id
module _ (s : List ℕ) (ticks set network : ℕ) (state : Option ℕ) where
  abbrev after : Ident × ℕ → Result Decoded Refusal
  after (ident, f) =
      then (read_load s f (most_of ident) (eqb (set % 2) 1))
      (λ load. Ok (decoded (item ticks network state ident (eqb (set % 2) 1)) load))

  usual_after : (r : Result (Ident × ℕ) Refusal) → UsualId r → Usual (then r after)
  usual_after (Ok (ident, f)) u = go (read_load s f (most_of ident) (eqb (set % 2) 1))
    where
      go : (r : Result Load Refusal) → Usual (then r (λ load. Ok (decoded (item ticks network state ident (eqb (set % 2) 1)) load)))
      go (Ok load) = u
      go (Err why) = tt
  usual_after (Err why) u = tt

  -- an error carries no payload, so none can be missing
  new_after : alone_in set ≡ true → (r : Result (Ident × ℕ) Refusal) → NewId r → New (then r after)
  unfolding read_load
  new_after a (Ok (ident, f)) u = rw (eqb-true set 6 a) u
  new_after a (Err why) u = u

  after_wider : (narrow wide : Result (Ident × ℕ) Refusal) → WiderId (alone_in set) narrow wide → Wider (then narrow after) (then wide after)
  after_wider narrow wide (inl (e, u)) = inl (ap (λ (r : Result (Ident × ℕ) Refusal). then r after) e, usual_after wide u)
  after_wider narrow wide (inr (a, e, u)) = inr (ap (λ (r : Result (Ident × ℕ) Refusal). then r after) e, new_after a wide u)

-- what precedes it
wider_some : {A : Type 0} (r : Option A) (k l : A → Result Decoded Refusal) → ((v : A) → Wider (k v) (l v))
    → Wider (opened r k (Err Refusal.Missing)) (opened r l (Err Refusal.Missing))
wider_some (Some v) k l w = w v
wider_some None k l w = inl (refl, tt)

wider_ok : {A : Type 0} (r : Result A Refusal) (k l : A → Result Decoded Refusal) → ((v : A) → Wider (k v) (l v)) → Wider (then r k) (then r l)
wider_ok (Ok v) k l w = w v
wider_ok (Err why) k l w = inl (refl, tt)

-- at any place of any numbers: the same is read as in the narrow layout; or that gave 25, and an error without a frame is read or 29 given
pub item_wider : (s : List ℕ) (at : ℕ) → Wider (narrow_item s at) (read_item s at)
unfolding narrow_item read_item
item_wider s at =
    wider_some (get_of 2 s at) _ _ (λ (ticks, a).
    wider_ok (read_flags s a) _ _ (λ (kind, set, b).
    wider_some (get_of 1 s b) _ _ (λ (network, d).
    wider_ok (read_state s d kind (eqb (set / 4 % 2) 1)) _ _ (λ (state, e).
    after_wider s ticks set network state _ _ (ident_wider s e kind (eqb (set / 2 % 2) 1) (alone_in set))))))

-- what an error without a frame is in a frame: its channels, a state and nothing else
pub record ErrorEntry (e : Entry) : Type 0 where
  pub channels : ℕ
  pub ident : e.item.ident ≡ Ident.FlexRayError channels
  pub some : 1 ≤ channels
  pub both : channels ≤ 3
  pub byte : ℕ
  pub state : e.item.state ≡ Some byte
  pub carries : e.item.carries ≡ false
  pub payload : e.payload ≡ []

no_bytes : (l : List ℕ) → length l ≡ 0 → l ≡ []
no_bytes [] h = refl
no_bytes (b ∷ l) h = let z : ⊥ = omega arith in absurd z

module _ (e : Entry) (v : Valid e) where
  abbrev it : Item
  it = e.item

  abbrev size : ℕ
  size = length e.payload

  alone_six : (channels : ℕ) → it.ident ≡ Ident.FlexRayError channels → set_of it.state it.ident it.carries ≡ 6
  alone_six channels i =
      eqb-true (set_of it.state it.ident it.carries) 6 (sym (ap (λ (x : Ident). set_for x (set_of it.state it.ident it.carries)) i) ∙ ok-set it size v.ok)

  error_made : (channels : ℕ) → it.ident ≡ Ident.FlexRayError channels → (state : Option ℕ) → it.state ≡ state → (carries : Bool) → it.carries ≡ carries
      → ErrorEntry e
  error_made channels i (Some b) p false q =
      let k = channels_in channels (sym (ap ident_ok i) ∙ ok_ident it size v.ok) in
      let l : load_ok false (most_of it.ident) size ≡ true = rw q at (ok_load it size v.ok) in
      record {
        channels = channels;
        ident = i;
        some = k.0;
        both = k.1;
        byte = b;
        state = p;
        carries = q;
        payload = no_bytes e.payload (eqb-true size 0 l);
      }
  error_made channels i (Some b) p true q = let s : ◌≡◌ {A = ℕ} 7 6 = rw (i, p, q) at (alone_six channels i) in let z : ⊥ = omega arith in absurd z
  error_made channels i None p true q = let s : ◌≡◌ {A = ℕ} 3 6 = rw (i, p, q) at (alone_six channels i) in let z : ⊥ = omega arith in absurd z
  error_made channels i None p false q = let s : ◌≡◌ {A = ℕ} 2 6 = rw (i, p, q) at (alone_six channels i) in let z : ⊥ = omega arith in absurd z

  pub error_entry : is_error it.ident ≡ true → ErrorEntry e
  error_entry q = go it.ident refl q
    where
      go : (id : Ident) → it.ident ≡ id → is_error id ≡ true → ErrorEntry e
      go (Ident.Can key) i z = never (ap bit z)
      go (Ident.Lin pid) i z = never (ap bit z)
      go (Ident.FlexRay _ _ _) i z = never (ap bit z)
      go (Ident.FlexRayError channels) i z = error_made channels i it.state refl it.carries refl
      go (Ident.Bare k) i z = never (ap bit z)
