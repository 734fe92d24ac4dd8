-- Laws of ids and items. Assumes nothing.
use Prim.Native.Nat.{ℕ, ◌+◌, ◌*◌, ◌/◌, ◌%◌, ◌^◌, ◌≤◌, ◌<◌}
use mathlib.Core.Path.{◌≡◌, refl, sym, ◌∙◌}
use mathlib.Core.Bool.{Bool, true, false, ◌&&◌}
use mathlib.Core.List.{List, [], ◌∷◌, ◌++◌}
use native.Mathlib.Omega.{arith}
use lib.ListN.{length, length-append}
use lib.Dec.{leb, eqb}
use lib.Bits.{bit_and, bit_or, or_shifted, and_mask}
use borrow.Author.Tests.{leb-true, eqb-true, eq-eqb, ne_eqb}
use Rattle.codec.specs.Choice.{bit}
use Rattle.codec.specs.Number.{be, Laid}
use Rattle.codec.specs.Ident.{kind_of, ident_bytes, ident_ok, most_of, can_fd, can_most, channels_ok, flexray_range}
use Rattle.codec.specs.Item.{state_bytes, set_of, set_ok, set_for, state_ok, load_ok, load_bytes, load_length, flags_of, encode, item_ok, item_length}
use Rattle.codec.specs.declared.ident.Ident.{Ident}
use Rattle.codec.specs.declared.item.Item.{Item}
use Rattle.codec.proofs.BoolLaws.{and_l, and_r}
use Rattle.codec.proofs.NumberLaws.{chain}

-- three flags
pub set_small : (s i : ℕ) (c : Bool) → s < 2 → i < 2 → s * 4 + i * 2 + bit c < 8
set_small s i true hs hi = omega arith
set_small s i false hs hi = omega arith

-- bits 5, 4 and 3 of the first byte of a FlexRay id
pub marked : (x : ℕ) → bit_and x 7 ≡ 1 → eqb (x % 8) 1 ≡ true
marked x h = eq-eqb (x % 8) 1 (sym (and_mask x 3) ∙ h)

pub unmarked : (x : ℕ) → (bit_and x 7 ≡ 1 → ⊥) → eqb (x % 8) 1 ≡ false
unmarked x h = ne_eqb (x % 8) 1 (λ e. h (and_mask x 3 ∙ e))

-- the first byte of a FlexRay id, and a slot out of its two bytes
pub front_sum : (c s : ℕ) → c ≤ 3 → s ≤ 2047 → bit_or (bit_or (c * 2 ^ 6 % 2 ^ 8) 8) (s / 2 ^ 8) ≡ c * 64 + 8 + s / 256
front_sum c s hc hs =
    let p : c * 2 ^ 6 % 2 ^ 8 ≡ c * 2 ^ 6 = omega arith in
    let q : bit_or (c * 2 ^ 6) 8 ≡ (c * 8 + 1) * 2 ^ 3 = or_shifted c 6 8 (omega arith) ∙ omega arith in
    rw (p, q) (or_shifted (c * 8 + 1) 3 (s / 2 ^ 8) (omega arith) ∙ omega arith)

-- no payload is longer than 254
pub most_small : (id : Ident) → most_of id ≤ 254
most_small (Ident.Can key) = fd (can_fd key)
  where
    fd : (b : Bool) → can_most b ≤ 254
    fd true = omega arith
    fd false = omega arith
most_small (Ident.Lin pid) = omega arith
most_small (Ident.FlexRay channels slot cycle) = omega arith
most_small (Ident.FlexRayError channels) = omega arith
most_small (Ident.Bare k) = omega arith

load_short : (carries : Bool) (most n : ℕ) → most ≤ 254 → load_ok carries most n ≡ true → n ≤ 254
load_short true most n m e = let h : n ≤ most = leb-true n most e in omega arith
load_short false most n m e = let h : n ≡ 0 = eqb-true n 0 e in omega arith

-- a set that goes with an id is one of the four
pub set_known : (id : Ident) (set : ℕ) → set_for id set ≡ true → set_ok set ≡ true
set_known (Ident.Can key) set e = e
set_known (Ident.Lin pid) set e = e
set_known (Ident.FlexRay channels slot cycle) set e = e
set_known (Ident.FlexRayError channels) set e = rw (eqb-true set 6 e)
set_known (Ident.Bare k) set e = e

-- what an item that may stand in a frame meets
module _ (it : Item) (n : ℕ) (e : item_ok it n ≡ true) where
  abbrev set : Bool
  set = set_for it.ident (set_of it.state it.ident it.carries)

  abbrev bits : Bool
  bits = state_ok (kind_of it.ident) it.state

  abbrev load : Bool
  load = load_ok it.carries (most_of it.ident) n

  pub ok_load : load ≡ true
  unfolding item_ok
  ok_load = and_r (set && bits && ident_ok it.ident) load e

  pub ok_ident : ident_ok it.ident ≡ true
  unfolding item_ok
  ok_ident = and_r (set && bits) (ident_ok it.ident) (and_l (set && bits && ident_ok it.ident) load e)

  pub ok_state : bits ≡ true
  unfolding item_ok
  ok_state = and_r set bits (and_l (set && bits) (ident_ok it.ident) (and_l (set && bits && ident_ok it.ident) load e))

  pub ok-set : set ≡ true
  unfolding item_ok
  ok-set = and_l set bits (and_l (set && bits) (ident_ok it.ident) (and_l (set && bits && ident_ok it.ident) load e))

pub ok_short : (it : Item) (n : ℕ) → item_ok it n ≡ true → n ≤ 254
ok_short it n e = load_short it.carries (most_of it.ident) n (most_small it.ident) (ok_load it n e)

-- what channels in range are
pub channels_in : (c : ℕ) → channels_ok c ≡ true → (1 ≤ c) × (c ≤ 3)
channels_in c e = (leb-true 1 c (and_l (leb 1 c) (leb c 3) e), leb-true c 3 (and_r (leb 1 c) (leb c 3) e))

-- what a FlexRay id in range holds
pub flexray_in : (c s y : ℕ) → flexray_range c s y ≡ true → (1 ≤ c) × (c ≤ 3) × (1 ≤ s) × (s ≤ 2047) × (y ≤ 63)
unfolding flexray_range
flexray_in c s y e =
    let e4 = and_l (leb 1 c && leb c 3 && leb 1 s && leb s 2047) (leb y 63) e in
    let e3 = and_l (leb 1 c && leb c 3 && leb 1 s) (leb s 2047) e4 in
    let e2 = and_l (leb 1 c && leb c 3) (leb 1 s) e3 in (
      leb-true 1 c (and_l (leb 1 c) (leb c 3) e2),
      leb-true c 3 (and_r (leb 1 c) (leb c 3) e2),
      leb-true 1 s (and_r (leb 1 c && leb c 3) (leb 1 s) e3),
      leb-true s 2047 (and_r (leb 1 c && leb c 3 && leb 1 s) (leb s 2047) e4),
      leb-true y 63 (and_r (leb 1 c && leb c 3 && leb 1 s && leb s 2047) (leb y 63) e),
    )

pub length_load : (carries : Bool) (pl : List ℕ) → length (load_bytes carries pl) ≡ load_length carries (length pl)
length_load true pl = omega arith
length_load false pl = refl

-- an item is as long as it says
pub encode-length : (it : Item) (pl : List ℕ) → length (encode it pl) ≡ item_length it (length pl)
unfolding encode
encode-length it pl = simp (length-append, length_load it.carries pl) (omega arith)

-- the four parts laid one after the other are the item
pub item_laid : {l l1 l2 l3 l4 : List ℕ} {at r1 r2 r3 r4 : ℕ} (f : ℕ) (it : Item) (pl : List ℕ)
    → Laid l at (be 2 it.offset.0 ++ f ∷ it.network ∷ []) l1 r1 → Laid l1 r1 (state_bytes it.state) l2 r2 → Laid l2 r2 (ident_bytes it.ident) l3 r3
    → Laid l3 r3 (load_bytes it.carries pl) l4 r4
    → f ≡ flags_of it → at + length (encode it pl) ≤ length l → Laid l at (encode it pl) l4 r4
unfolding encode
item_laid f it pl a b d t e h =
    let k = encode-length it pl in
    rw (← e) (chain (chain (chain a b (omega arith)) d (simp length-append (omega arith))) t (simp length-append (omega arith)))
