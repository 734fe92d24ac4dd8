-- Decode after encode: reading what was written gives the same values back. Assumes nothing.
use Prim.Native.Nat.{ℕ, suc, ◌+◌, ◌-◌, ◌*◌, ◌/◌, ◌%◌, ◌^◌, ◌≤◌, ◌<◌}
use mathlib.Core.Path.{◌≡◌, refl, sym, ◌∙◌, ap}
use mathlib.Core.Bool.{Bool, true, false}
use mathlib.Core.List.{List, [], ◌∷◌, ◌++◌, append_assoc}
use native.Mathlib.Nat.{add-zero, mod-eq_of_lt}
use native.Mathlib.Omega.{arith}
use lib.ListN.{length, take, drop, get_or, length-append}
use lib.Seq.{get_or_at}
use lib.Dec.{eqb}
use borrow.Author.Tests.{le-ltb, le-leb, leb-true, eq-eqb, eqb-true}
use Rattle.std.specs.Prelude.{Option, Some, None, Ok}
use Rattle.codec.specs.Choice.{pick, bit}
use Rattle.codec.specs.Number.{be, val, word, fits, Bytes, get_of, part_of}
use Rattle.codec.specs.Ident.{network_type, kind_in, kind_of, ident_bytes, ident_bit, ident_ok, most_of, can_zero, can_range}
use Rattle.codec.specs.Item.{state_bytes, state_bit, set_ok, set_for, alone_in, state_ok, load_ok, load_bytes, flags_of, encode}
use Rattle.codec.specs.Field.{read_flags, read_state, can_ident, flexray_ident, read_can, read_lin, lin_ident, frame_ident, error_ident, read_flexray, read_ident, read_load, read_item, bytes_at}
use Rattle.codec.specs.Header.{header_bytes, read_header}
use Rattle.codec.specs.Layout.{Entry, Valid, StateFits, IdentFits}
use Rattle.codec.specs.declared.ident.Kind.{Kind}
use Rattle.codec.specs.declared.ident.Ident.{Ident}
use Rattle.codec.specs.declared.item.Item.{Item}
use Rattle.codec.specs.declared.header.Header.{Header}
use Rattle.codec.proofs.NumberLaws.{length-be, has_room_lem, got_here, got_byte}
use Rattle.codec.proofs.BoolLaws.{and_l, and_r}
use Rattle.codec.proofs.ItemLaws.{set_small, set_known, ok-set, ok_state, ok_ident, ok_load, ok_short, channels_in, flexray_in, length_load, encode-length}
use Rattle.codec.proofs.Stands.{Stands, left, right, part_back, room_back, val-be, bytes_be, bytes_join}

-- where the payload of an item that stands at index at starts
abbrev pub payload_place : ℕ → Item → ℕ
payload_place at it = at + 4 + length (state_bytes it.state) + length (ident_bytes it.ident) + bit it.carries

-- no bytes are a part wherever
pub part_none : (s : List ℕ) (at : ℕ) → bytes_at s at 0 ≡ []
unfolding bytes_at
part_none s at = go (fits s at 0)
  where
    go : (b : Bool) → pick b (take 0 (drop at s)) [] ≡ []
    go true = refl
    go false = refl

kind_small : (k : Kind) → network_type k < 4
kind_small Kind.Can = omega arith
kind_small Kind.Lin = omega arith
kind_small Kind.FlexRay = omega arith

kind_back : (k : Kind) → kind_in (network_type k) ≡ Ok k
unfolding kind_in
kind_back Kind.Can = refl
kind_back Kind.Lin = refl
kind_back Kind.FlexRay = refl

-- each reader finds the number whose bytes stand there
module _ {s : List ℕ} {at : ℕ} where
  fits_back : {bs : List ℕ} → Stands s at bs → fits s at (length bs) ≡ true
  fits_back {bs} w = has_room_lem s at (length bs) (room_back w)

  byte_back : {b : ℕ} {bs : List ℕ} → Stands s at (b ∷ bs) → get_or s at 0 ≡ b
  byte_back {b} {bs} w = rw (w.split, append_assoc) (get_or_at w.pre b (bs ++ w.post) 0 at w.len)

  word_back : (n v : ℕ) → v < 256 ^ n → Stands s at (be n v) → word n s at ≡ v
  unfolding word
  word_back n v h w =
      ap (λ (k : ℕ). val 0 (take k (drop at s))) (sym (length-be n v))
      ∙ ap (val 0) (part_back w) ∙ val-be n 0 v ∙ rw (mod-eq_of_lt h) (omega arith)

  back : (n v : ℕ) → n ≤ 8 → v < 256 ^ n → Stands s at (be n v) → get_of n s at ≡ Some (v, at + n)
  back n v k h w =
      let r : at + n ≤ length s = rw (length-be n v) at (room_back w) in
      rw (← word_back n v h w) (got_here n s at k r)

  back8 : {b : ℕ} {bs : List ℕ} → Stands s at (b ∷ bs) → get_of 1 s at ≡ Some (b, at + 1)
  back8 {b} {bs} w = let r = room_back w in rw (← byte_back w) (got_byte s at (omega arith))

  part_at : {bs : List ℕ} → Stands s at bs → part_of s at (length bs) ≡ Some (at + length bs)
  unfolding part_of
  part_at w = simp (fits_back w)

-- each reader of a field finds the field
module _ {s : List ℕ} {at : ℕ} where
  flags_back : (kind : Kind) (set : ℕ) → set_ok set ≡ true → Stands s at ((set * 32 + network_type kind) ∷ [])
      → read_flags s at ≡ Ok (kind, set, at + 1)
  unfolding read_flags
  flags_back kind set ok w =
      let h = kind_small kind in
      let m : (set * 32 + network_type kind) % 32 ≡ network_type kind = omega arith in
      let d : (set * 32 + network_type kind) / 32 ≡ set = omega arith in
      simp (back8 w, m, kind_back kind, d, ok)

  state_back : (kind : Kind) (state : Option ℕ) → state_ok kind state ≡ true → Stands s at (state_bytes state)
      → read_state s at kind (eqb (state_bit state) 1) ≡ Ok (state, at + length (state_bytes state))
  unfolding read_state
  state_back kind (Some b) ok w = simp (back8 w, ok)
  state_back kind None ok w = simp add-zero

  ident_back : (ident : Ident) (set : ℕ) → set_for ident set ≡ true → ident_ok ident ≡ true → IdentFits ident → Stands s at (ident_bytes ident)
      → read_ident s at (kind_of ident) (eqb (ident_bit ident) 1) (alone_in set) ≡ Ok (ident, at + length (ident_bytes ident))
  unfolding read_ident read_can can_ident read_lin lin_ident read_flexray flexray_ident frame_ident error_ident
  ident_back (Ident.Can key) set e ok h w = simp (back 4 key (omega arith) h w, and_l (can_zero key) (can_range key) ok, and_r (can_zero key) (can_range key) ok)
  ident_back (Ident.Lin pid) set e ok h w = simp (back8 w, ok)
  ident_back (Ident.FlexRay channels slot cycle) set e ok h w =
      let r = flexray_in channels slot cycle ok in
      let f : ℕ = channels * 64 + 8 + slot / 256 in
      let m : f / 8 % 8 ≡ 1 = omega arith in
      let c : f / 64 ≡ channels = omega arith in
      let l : f % 8 * 256 + slot % 256 ≡ slot = omega arith in
      simp (
        part_at w,
        byte_back w,
        byte_back (right (f ∷ []) (slot % 256 ∷ cycle ∷ []) w),
        byte_back (right (f ∷ slot % 256 ∷ []) (cycle ∷ []) w),
        m,
        c,
        l,
        ok,
      )
  ident_back (Ident.FlexRayError channels) set e ok h w =
      let r = channels_in channels ok in
      let f : ℕ = channels * 64 in
      let m : f / 8 % 8 ≡ 0 = omega arith in
      let c : f / 64 ≡ channels = omega arith in
      let l : f % 8 * 256 + 0 ≡ 0 = omega arith in
      simp (part_at w, byte_back w, byte_back (right (f ∷ []) (0 ∷ 0 ∷ []) w), byte_back (right (f ∷ 0 ∷ []) (0 ∷ []) w), m, c, l, e, ok)
  ident_back (Ident.Bare k) set e ok h w = simp add-zero

  load_back : (most : ℕ) (carries : Bool) (pl : List ℕ) → load_ok carries most (length pl) ≡ true → Stands s at (load_bytes carries pl)
      → read_load s at most carries ≡ Ok (record { start = at + bit carries; len = length pl; next = at + length (load_bytes carries pl) })
  unfolding read_load
  load_back most true pl ok w =
      let h : length pl ≤ most = leb-true (length pl) most ok in
      let n : at + 1 + length pl ≡ at + suc (length pl) = omega arith in
      simp (back8 (left (length pl ∷ []) pl w), le-ltb most (length pl) h, part_at (right (length pl ∷ []) pl w), n)
  load_back most false pl ok w = simp (add-zero, eqb-true (length pl) 0 ok)

  payload_there : (most : ℕ) (carries : Bool) (pl : List ℕ) → load_ok carries most (length pl) ≡ true → Stands s at (load_bytes carries pl)
      → bytes_at s (at + bit carries) (length pl) ≡ pl
  unfolding bytes_at
  payload_there most true pl ok w = let x = right (length pl ∷ []) pl w in simp (fits_back x, part_back x)
  payload_there most false [] ok w = part_none s (at + 0)
  payload_there most false (b ∷ pl) ok w = let z = eqb-true (suc (length pl)) 0 ok in let k : ⊥ = omega arith in absurd k

-- the flags of a set, each at its place
module _ (s i c : ℕ) (hs : s < 2) (hi : i < 2) (hc : c < 2) where
  first_bit : (s * 4 + i * 2 + c) / 4 % 2 ≡ s
  first_bit = omega arith

  second_bit : (s * 4 + i * 2 + c) / 2 % 2 ≡ i
  second_bit = omega arith

  third_bit : (s * 4 + i * 2 + c) % 2 ≡ c
  third_bit = omega arith

state_small : (state : Option ℕ) → state_bit state < 2
state_small (Some b) = omega arith
state_small None = omega arith

ident_small : (ident : Ident) → ident_bit ident < 2
ident_small (Ident.Can key) = omega arith
ident_small (Ident.Lin pid) = omega arith
ident_small (Ident.FlexRay channels slot cycle) = omega arith
ident_small (Ident.FlexRayError channels) = omega arith
ident_small (Ident.Bare k) = omega arith

bit_small : (b : Bool) → bit b < 2
bit_small true = omega arith
bit_small false = omega arith

bit_back : (b : Bool) → eqb (bit b) 1 ≡ b
bit_back true = refl
bit_back false = refl

move : {s : List ℕ} {a b : ℕ} {bs : List ℕ} → Stands s a bs → a ≡ b → Stands s b bs
move w e = rw e at w

-- the parts of an item, each at its place
module _ (s : List ℕ) (at : ℕ) (it : Item) (pl : List ℕ) (w : Stands s at (encode it pl)) where
  abbrev front : List ℕ
  front = be 2 it.offset.0 ++ (flags_of it ∷ it.network ∷ [])

  to_ident : Stands s at (front ++ state_bytes it.state ++ ident_bytes it.ident)
  unfolding encode
  to_ident = left (front ++ state_bytes it.state ++ ident_bytes it.ident) (load_bytes it.carries pl) w

  to_state : Stands s at (front ++ state_bytes it.state)
  to_state = left (front ++ state_bytes it.state) (ident_bytes it.ident) to_ident

  to_front : Stands s at front
  to_front = left front (state_bytes it.state) to_state

  offset_there : Stands s at (be 2 it.offset.0)
  offset_there = left (be 2 it.offset.0) (flags_of it ∷ it.network ∷ []) to_front

  rest_there : Stands s (at + 2) (flags_of it ∷ it.network ∷ [])
  rest_there = right (be 2 it.offset.0) (flags_of it ∷ it.network ∷ []) to_front

  state_there : Stands s (at + 4) (state_bytes it.state)
  state_there = right front (state_bytes it.state) to_state

  ident_there : Stands s (at + 4 + length (state_bytes it.state)) (ident_bytes it.ident)
  ident_there = move (right (front ++ state_bytes it.state) (ident_bytes it.ident) to_ident) (simp length-append (omega arith))

  load_there : Stands s (at + 4 + length (state_bytes it.state) + length (ident_bytes it.ident)) (load_bytes it.carries pl)
  unfolding encode
  load_there = move (right (front ++ state_bytes it.state ++ ident_bytes it.ident) (load_bytes it.carries pl) w) (simp length-append (omega arith))

pub item_back : (s : List ℕ) (at : ℕ) (e : Entry) → Valid e → Stands s at (encode e.item e.payload)
    → read_item s at ≡ Ok (record { item = e.item; start = payload_place at e.item; len = length e.payload; next = at + length (encode e.item e.payload) })
unfolding read_item
item_back s at e v w =
    let it : Item = e.item in
    let pl : List ℕ = e.payload in
    let kind : Kind = kind_of it.ident in
    let x : ℕ = state_bit it.state in
    let y : ℕ = ident_bit it.ident in
    let z : ℕ = bit it.carries in
    let hx = state_small it.state in
    let hy = ident_small it.ident in
    let hz = bit_small it.carries in
    let k = encode-length it pl in
    let j = length_load it.carries pl in
    let n3 : at + 2 + 1 ≡ at + 3 = omega arith in
    let n4 : at + 3 + 1 ≡ at + 4 = omega arith in
    let n : at + 4 + length (state_bytes it.state) + length (ident_bytes it.ident) + length (load_bytes it.carries pl) ≡ at + length (encode it pl)
    = omega arith in
    let r = rest_there s at it pl w in
    simp (
      back 2 it.offset.0 (omega arith) v.offset (offset_there s at it pl w),
      flags_back kind (x * 4 + y * 2 + z) (set_known it.ident (x * 4 + y * 2 + z) (ok-set it (length pl) v.ok)) (left (flags_of it ∷ []) (it.network ∷ []) r),
      n3,
      back8 (move (right (flags_of it ∷ []) (it.network ∷ []) r) n3),
      n4,
      first_bit x y z hx hy hz,
      state_back kind it.state (ok_state it (length pl) v.ok) (state_there s at it pl w),
      second_bit x y z hx hy hz,
      ident_back it.ident (x * 4 + y * 2 + z) (ok-set it (length pl) v.ok) (ok_ident it (length pl) v.ok) v.ident (ident_there s at it pl w),
      third_bit x y z hx hy hz,
      bit_back it.carries,
      load_back (most_of it.ident) it.carries pl (ok_load it (length pl) v.ok) (load_there s at it pl w),
      n,
    )

pub payload_back : (s : List ℕ) (at : ℕ) (e : Entry) → Valid e → Stands s at (encode e.item e.payload)
    → bytes_at s (payload_place at e.item) (length e.payload) ≡ e.payload
payload_back s at e v w =
    payload_there
    (most_of e.item.ident)
    e.item.carries
    e.payload
    (ok_load e.item (length e.payload) v.ok)
    (load_there s at e.item e.payload w)

-- every number that is written is a byte
state-bytes : (state : Option ℕ) → StateFits state → Bytes (state_bytes state)
state-bytes (Some b) h = (h, tt)
state-bytes None h = tt

ident-bytes : (ident : Ident) → ident_ok ident ≡ true → IdentFits ident → Bytes (ident_bytes ident)
ident-bytes (Ident.Can key) ok h = bytes_be 4 key
ident-bytes (Ident.Lin pid) ok h = (h, tt)
ident-bytes (Ident.FlexRay channels slot cycle) ok h =
    let r = flexray_in channels slot cycle ok in
    (omega arith, (omega arith, (omega arith, tt)))
ident-bytes (Ident.FlexRayError channels) ok h = let r = channels_in channels ok in (omega arith, (omega arith, (omega arith, tt)))
ident-bytes (Ident.Bare k) ok h = tt

load-bytes : (carries : Bool) (pl : List ℕ) → length pl ≤ 254 → Bytes pl → Bytes (load_bytes carries pl)
load-bytes true pl h k = (omega arith, k)
load-bytes false pl h k = tt

pub encode_bytes : (e : Entry) → Valid e → Bytes (encode e.item e.payload)
unfolding encode
encode_bytes e v =
    let it : Item = e.item in
    let pl : List ℕ = e.payload in
    let a = set_small (state_bit it.state) (ident_bit it.ident) it.carries (state_small it.state) (ident_small it.ident) in
    let b = kind_small (kind_of it.ident) in
    let f : flags_of it < 256 = omega arith in
    let front : List ℕ = be 2 it.offset.0 ++ (flags_of it ∷ it.network ∷ []) in
    bytes_join (front ++ state_bytes it.state ++ ident_bytes it.ident) (load_bytes it.carries pl)
    (bytes_join (front ++ state_bytes it.state) (ident_bytes it.ident)
    (bytes_join front (state_bytes it.state)
    (bytes_join (be 2 it.offset.0) (flags_of it ∷ it.network ∷ []) (bytes_be 2 it.offset.0) (f, (v.network, tt)))
    (state-bytes it.state v.state))
    (ident-bytes it.ident (ok_ident it (length pl) v.ok) v.ident))
    (load-bytes it.carries pl (ok_short it (length pl) v.ok) v.payload)

-- the header
pub header_back : (s : List ℕ) (h : Header) → h.sequence < 256 → h.time.sec ≤ 281474976710655 → h.time.nano ≤ 999999999 → h.length ≤ 65535
    → length s ≡ 14 + h.length → Stands s 0 (header_bytes h) → read_header s ≡ Ok h
unfolding read_header header_bytes
header_back s h seq sec nano len all w =
    let a : List ℕ = 1 ∷ h.sequence ∷ [] in
    let b : List ℕ = be 6 h.time.sec in
    let c : List ℕ = be 4 h.time.nano in
    let d : List ℕ = be 2 h.length in
    let w3 = left (a ++ b ++ c) d w in
    let w2 = left (a ++ b) c w3 in
    let w1 = left a b w2 in
    let rest : length s - 14 ≡ h.length = omega arith in
    simp (
      le-ltb (length s) 14 (omega arith),
      byte_back w1,
      byte_back (right (1 ∷ []) (h.sequence ∷ []) w1),
      word_back 6 h.time.sec (omega arith) (right a b w2),
      word_back 4 h.time.nano (omega arith) (right (a ++ b) c w3),
      word_back 2 h.length (omega arith) (right (a ++ b ++ c) d w),
      le-leb h.time.nano 999999999 nano,
      rest,
      eq-eqb h.length h.length refl,
    )

pub header-bytes : (h : Header) → h.sequence < 256 → Bytes (header_bytes h)
unfolding header_bytes
header-bytes h k =
    let a : List ℕ = 1 ∷ h.sequence ∷ [] in
    let b : List ℕ = be 6 h.time.sec in
    let c : List ℕ = be 4 h.time.nano in
    let d : List ℕ = be 2 h.length in
    bytes_join (a ++ b ++ c) d
    (bytes_join (a ++ b) c (bytes_join a b (omega arith, (k, tt)) (bytes_be 6 h.time.sec)) (bytes_be 4 h.time.nano))
    (bytes_be 2 h.length)
