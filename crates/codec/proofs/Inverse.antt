-- Encode after decode: what an accepted read found is there, byte for byte. Assumes nothing.
use Prim.Native.Nat.{ℕ, ◌+◌, ◌-◌, ◌*◌, ◌/◌, ◌%◌, ◌≤◌, ◌<◌}
use mathlib.Core.Path.{◌≡◌, refl, ap}
use mathlib.Core.Bool.{Bool, true, false, ◌||◌}
use mathlib.Core.List.{List}
use native.Mathlib.Omega.{arith}
use lib.ListN.{length, take, get_or}
use lib.Dec.{ltb, leb, eqb}
use borrow.Author.Tests.{ltb-false, leb-true, eqb-true}
use Rattle.std.specs.Prelude.{Option, Ok}
use Rattle.codec.specs.Choice.{bit}
use Rattle.codec.specs.Number.{word, Bytes, get_of}
use Rattle.codec.specs.Ident.{network_type, kind_of, ident_bit, most_of}
use Rattle.codec.specs.Item.{state_bit, set_of, set_ok, alone_in, encode, item_ok}
use Rattle.codec.specs.Field.{read_flags, read_state, read_ident, read_load, read_item, bytes_at}
use Rattle.codec.specs.Header.{header_bytes, header_in, read_header}
use Rattle.codec.specs.Layout.{Valid}
use Rattle.codec.specs.declared.ident.Ident.{Ident}
use Rattle.codec.specs.declared.item.Item.{Item}
use Rattle.codec.specs.declared.field.Decoded.{Decoded}
use Rattle.codec.specs.declared.header.Header.{Header}
use Rattle.codec.proofs.Stands.{Stands, join, part_back, bytes-at, word_stands, word_below}
use Rattle.codec.proofs.RoundTrip.{payload_place}
use Rattle.codec.proofs.Opened.{never, chosen, passed, in_some, in_ok, ok_is}
use Rattle.codec.proofs.FieldInverse.{both, byte_stands, took8, room_got, took, part_bytes, flags_got, state_got, ident_got, load_got}

-- the flags of a set that may be are the set again
either : {G : Type 0} (a b : Bool) → (a || b) ≡ true → (a ≡ true → G) → (b ≡ true → G) → G
either true b e f g = f e
either false b e f g = g e

abbrev flags : ℕ → ℕ
flags set = bit (eqb (set / 4 % 2) 1) * 4 + bit (eqb (set / 2 % 2) 1) * 2 + bit (eqb (set % 2) 1)

flags_are : (set : ℕ) → set_ok set ≡ true → flags set ≡ set
flags_are set e =
    either (eqb set 3 || eqb set 7 || eqb set 6) (eqb set 4) e (λ e1.
    either (eqb set 3 || eqb set 7) (eqb set 6) e1 (λ e2.
    either (eqb set 3) (eqb set 7) e2 (is 3 refl) (is 7 refl)) (is 6 refl)) (is 4 refl)
  where
    is : (n : ℕ) → flags n ≡ n → eqb set n ≡ true → flags set ≡ set
    is n k f = rw (eqb-true set n f) k

set_is : (set : ℕ) (state : Option ℕ) (ident : Ident) → set_ok set ≡ true → state_bit state ≡ bit (eqb (set / 4 % 2) 1) → ident_bit ident ≡ bit (eqb (set / 2 % 2) 1)
    → set_of state ident (eqb (set % 2) 1) ≡ set
set_is set state ident e p q = rw (p, q) (flags_are set e)

-- an item that was read, from any numbers; from bytes, its own bytes stand there
record ItemGot (s : List ℕ) (at : ℕ) (it : Item) (start len next : ℕ) : Type 0 where
  pub begins : at + 4 ≤ next
  pub room : next ≤ length s
  pub ends : next ≡ at + length (encode it (bytes_at s start len))
  pub stands : Bytes s → Stands s at (encode it (bytes_at s start len))
  pub valid : Bytes s → Valid (record { item = it; payload = bytes_at s start len })
  pub size : length (bytes_at s start len) ≡ len
  pub place : start ≡ payload_place at it

item_got : (s : List ℕ) (at : ℕ) {it : Item} {start len next : ℕ} → read_item s at ≡ Ok (record { item = it; start = start; len = len; next = next }) → ItemGot s at it start len next
unfolding read_item encode item_ok
item_got s at {it} {start} {len} {next} eq =
    in_some (get_of 2 s at) _ _ eq (λ z. never (cc)) (λ x1 p1 e1.
    in_ok (read_flags s x1.1) _ e1 (λ y z. never (cc)) (λ x2 p2 e2.
    in_some (get_of 1 s x2.2) _ _ e2 (λ z. never (cc)) (λ x3 p3 e3.
    in_ok (read_state s x3.1 x2.0 (eqb (x2.1 / 4 % 2) 1)) _ e3 (λ y z. never (cc)) (λ x4 p4 e4.
    in_ok (read_ident s x4.1 x2.0 (eqb (x2.1 / 2 % 2) 1) (alone_in x2.1)) _ e4 (λ y z. never (cc)) (λ x5 p5 e5.
    in_ok (read_load s x5.1 (most_of x5.0) (eqb (x2.1 % 2) 1)) _ e5 (λ y z. never (cc)) (λ load p6 e6.
    let set : ℕ = x2.1 in
    let state : Option ℕ = x4.0 in
    let ident : Ident = x5.0 in
    let h : at + 2 ≤ length s = room_got s at 2 (omega arith) p1 in
    let t1 = took s at 2 (omega arith) p1 in
    let t2 = flags_got s x1.1 p2 in
    let t3 = took8 s x2.2 p3 in
    let t4 = state_got s x3.1 p4 in
    let t5 = ident_got s x4.1 p5 in
    let t6 = load_got s x5.1 p6 in
    let c : Bool = eqb (set % 2) 1 in
    let g : set_of state ident c ≡ set = set_is set state ident t2.ok t4.here t5.here in
    let m : set_of state ident c * 32 + network_type (kind_of ident) ≡ set * 32 + network_type x2.0 = rw (g, t5.same) in
    let all = both (both (both (both t1 (both (rw (← m) at t2.took) t3)) t4.took) t5.took) t6.took in
    let q = ok_is e6 in
    let i : ◌≡◌ {A = Item} (record { offset = record { 0 = x1.0 }; network = x3.0; state = state; ident = ident; carries = c }) it
    = ap (λ (d : Decoded). d.item) q in
    let x : load.start ≡ start = ap (λ (d : Decoded). d.start) q in
    let y : load.len ≡ len = ap (λ (d : Decoded). d.len) q in
    let w : load.next ≡ next = ap (λ (d : Decoded). d.next) q in
    rw (← i, ← x, ← y, ← w) record {
      begins = omega arith;
      room = all.room (omega arith);
      ends = all.ends;
      stands = λ k. all.stands k (omega arith);
      valid = λ k. record {
        ok = simp (t6.size, g, t5.goes set refl t2.ok, t5.same, t4.ok, t5.ok, t6.ok);
        offset = t1.within k;
        network = t3.within k;
        state = t4.took.within k;
        ident = t5.took.within k;
        payload = part_bytes s load.start load.len k;
      };
      size = t6.size;
      place = omega arith;
    }))))))

pub read_room : (s : List ℕ) (at : ℕ) {it : Item} {start len next : ℕ} → read_item s at ≡ Ok (record { item = it; start = start; len = len; next = next }) → (at + 4 ≤ next) × (next ≤ length s)
read_room s at e = let g = item_got s at e in (g.begins, g.room)

-- an item that was read from bytes is valid, and its bytes are those that were read
pub record Forth (s : List ℕ) (at : ℕ) (it : Item) (start len next : ℕ) : Type 0 where
  pub stands : Stands s at (encode it (bytes_at s start len))
  pub ends : next ≡ at + length (encode it (bytes_at s start len))
  pub valid : Valid (record { item = it; payload = bytes_at s start len })
  pub size : length (bytes_at s start len) ≡ len
  pub place : start ≡ payload_place at it

pub item_forth : (s : List ℕ) (at : ℕ) {it : Item} {start len next : ℕ} → Bytes s → read_item s at ≡ Ok (record { item = it; start = start; len = len; next = next })
    → Forth s at it start len next
item_forth s at b e =
    let g = item_got s at e in
    record { stands = g.stands b; ends = g.ends; valid = g.valid b; size = g.size; place = g.place }

-- a header that was read from bytes is within its widths, and its bytes are the first 14
pub record HeaderForth (s : List ℕ) (h : Header) : Type 0 where
  pub bytes : take 14 s ≡ header_bytes h
  pub size : length s ≡ 14 + h.length
  pub sequence : h.sequence < 256
  pub sec : h.time.sec ≤ 281474976710655
  pub nano : h.time.nano ≤ 999999999
  pub total : h.length ≤ 65535

header_stands : (s : List ℕ) → Bytes s → 14 ≤ length s → get_or s 0 0 ≡ 1 → Stands s 0 (header_bytes (header_in s))
unfolding header_bytes
header_stands s b h v =
    let front = join (rw v at (byte_stands s 0 (omega arith))) (byte_stands s 1 (omega arith)) in
    join (join (join front (word_stands 6 s 2 b (omega arith))) (word_stands 4 s 8 b (omega arith))) (word_stands 2 s 12 b (omega arith))

-- the header that was read is the one in the first 14 bytes, whatever the numbers
pub record HeaderGot (s : List ℕ) (h : Header) : Type 0 where
  pub long : 14 ≤ length s
  pub is : header_in s ≡ h
  pub version : get_or s 0 0 ≡ 1
  pub nano : word 4 s 8 ≤ 999999999
  pub rest : word 2 s 12 ≡ length s - 14

pub header_got : (s : List ℕ) {h : Header} → read_header s ≡ Ok h → HeaderGot s h
unfolding read_header
header_got s {h} e =
    passed (ltb (length s) 14) _ _ e (λ z. never (cc)) (λ f e1.
    chosen (eqb (get_or s 0 0) 1) _ _ e1 (λ z. never (cc)) (λ v e2.
    chosen (leb (word 4 s 8) 999999999) _ _ e2 (λ z. never (cc)) (λ n e3.
    chosen (eqb (word 2 s 12) (length s - 14)) _ _ e3 (λ z. never (cc)) (λ l e4.
    record {
      long = ltb-false (length s) 14 f;
      is = cc;
      version = eqb-true (get_or s 0 0) 1 v;
      nano = leb-true (word 4 s 8) 999999999 n;
      rest = eqb-true (word 2 s 12) (length s - 14) l;
    }))))

pub header_forth : (s : List ℕ) {h : Header} → Bytes s → read_header s ≡ Ok h → HeaderForth s h
unfolding header_bytes
header_forth s {h} b e =
    let g = header_got s e in
    let j = g.long in
    let k = g.rest in
    let x = word_below 6 s 2 b in
    let y = word_below 2 s 12 b in
    rw (← g.is) record {
      bytes = part_back (header_stands s b j g.version);
      size = omega arith;
      sequence = bytes-at s 1 b;
      sec = omega arith;
      nano = g.nano;
      total = omega arith;
    }
