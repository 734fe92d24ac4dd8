-- Each field that was read: its bytes stand there, and what it says of the item. Assumes nothing.
use Prim.Native.Nat.{ℕ, ◌+◌, ◌*◌, ◌/◌, ◌%◌, ◌^◌, ◌≤◌, ◌<◌}
use mathlib.Core.Path.{◌≡◌, refl, sym, ap}
use mathlib.Core.Bool.{Bool, true, false, ◌&&◌}
use mathlib.Core.List.{List, [], ◌∷◌, ◌++◌}
use native.Mathlib.Omega.{arith}
use lib.ListN.{length, take, drop, get_or, length-append, length-drop}
use lib.Seq.{drop-cons, length-take-le}
use lib.Dec.{ltb, leb, eqb}
use borrow.Author.Tests.{ltb-false, leb-true, le-leb, eqb-true}
use Rattle.std.specs.Prelude.{Option, Some, None, Result, Ok}
use Rattle.std.proofs.lemmas.Option.{some_pair_parts}
use Rattle.codec.specs.Choice.{pick, bit}
use Rattle.codec.specs.Number.{be, word, fits, Bytes, get_of, part_of}
use Rattle.codec.specs.Ident.{network_type, kind_in, kind_of, ident_bytes, ident_bit, ident_ok, can_zero, can_range, pid_ok, channels_ok, flexray_range, flexray_bytes, error_bytes}
use Rattle.codec.specs.Item.{state_bytes, state_bit, set_ok, set_for, alone_in, state_ok, load_ok, load_bytes}
use Rattle.codec.specs.Field.{read_flags, read_state, can_ident, lin_ident, frame_ident, error_ident, flexray_ident, read_can, read_lin, read_flexray, read_ident, read_load, bytes_at}
use Rattle.codec.specs.Layout.{StateFits, IdentFits}
use Rattle.codec.specs.declared.ident.Kind.{Kind}
use Rattle.codec.specs.declared.ident.Ident.{Ident}
use Rattle.codec.specs.declared.refusal.Refusal.{Refusal}
use Rattle.codec.specs.declared.field.Load.{Load}
use Rattle.codec.proofs.BoolLaws.{and_l, and_r}
use Rattle.codec.proofs.NumberLaws.{length-be, part_room, has_room_lem, word_one}
use Rattle.codec.proofs.Stands.{Stands, join, stands_none, stands_part, bytes_part, bytes-at, word_stands, word_below}
use Rattle.codec.proofs.RoundTrip.{part_none}
use Rattle.codec.proofs.Opened.{never, chosen, passed, in_some, in_ok, ok_is, ok_two, ok_three}

-- a field that was read, from any numbers: bs are as many as next says; from bytes, they stand at index at and fit their widths
pub record Took (s : List ℕ) (at : ℕ) (bs : List ℕ) (next : ℕ) (Fits : Type 0) : Type 0 where
  pub ends : next ≡ at + length bs
  pub room : at ≤ length s → next ≤ length s
  pub stands : Bytes s → at ≤ length s → Stands s at bs
  pub within : Bytes s → Fits

-- one field after the other
pub both : {s : List ℕ} {at k next : ℕ} {xs ys : List ℕ} {A B : Type 0} → Took s at xs k A → Took s k ys next B → Took s at (xs ++ ys) next (A × B)
both {s} {at} {k} {next} {xs} {ys} a b = record {
  ends = let p = a.ends in let q = b.ends in rw (length-append xs ys) (omega arith);
  room = λ h. b.room (a.room h);
  stands = λ y h. join (a.stands y h) (rw a.ends at (b.stands y (a.room h)));
  within = λ y. (a.within y, b.within y);
}

-- numbers and bytes that were read
module _ (s : List ℕ) (at : ℕ) where
  found : {A G : Type 0} {x : A} (n : ℕ) (y z : A) → pick (fits s at n) y z ≡ x → (z ≡ x → G) → (at + n ≤ length s → y ≡ x → G) → G
  unfolding fits
  found n y z e un g = chosen (fits s at n) y z e un (λ f. g (leb-true (at + n) (length s) f))

  pub byte_stands : at + 1 ≤ length s → Stands s at (get_or s at 0 ∷ [])
  byte_stands h =
      let e : take 1 (drop at s) ≡ get_or s at 0 ∷ [] = rw (drop-cons s at 0 (omega arith)) in
      rw e at (stands_part s at 1 h)

  -- a number that was got is all there, and is what its bytes are
  got : (n : ℕ) {v next : ℕ} → n ≤ 8 → get_of n s at ≡ Some (v, next) → (at + n ≤ length s) × ((word n s at ≡ v) × (at + n ≡ next))
  unfolding get_of
  got n {v} {next} h e =
      chosen (leb n 8) _ _ e (λ z. never (cc)) (λ b e1.
      found n (Some (word n s at, at + n)) None e1 (λ z. never (cc)) (λ k e2. (k, some_pair_parts _ _ _ _ e2)))

  pub room_got : (n : ℕ) {v next : ℕ} → n ≤ 8 → get_of n s at ≡ Some (v, next) → at + n ≤ length s
  room_got n h e = (got n h e).0

  took_word : (n : ℕ) → at + n ≤ length s → Took s at (be n (word n s at)) (at + n) (word n s at < 256 ^ n)
  took_word n h = record {
    ends = ap (λ (k : ℕ). at + k) (sym (length-be n (word n s at)));
    room = λ k. h;
    stands = λ b k. word_stands n s at b h;
    within = λ b. word_below n s at b;
  }

  pub took : (n : ℕ) {v next : ℕ} → n ≤ 8 → get_of n s at ≡ Some (v, next) → Took s at (be n v) next (v < 256 ^ n)
  took n h e = let g = got n h e in rw (← g.1.0, ← g.1.1) (took_word n g.0)

  pub took8 : {v next : ℕ} → get_of 1 s at ≡ Some (v, next) → Took s at (v ∷ []) next (v < 256)
  took8 {v} {next} e =
      let g = got 1 (omega arith) e in
      let h = g.0 in
      rw (← g.1.0, ← g.1.1, word_one s at (omega arith))
      record { ends = refl; room = λ k. h; stands = λ b k. byte_stands h; within = λ b. bytes-at s at b }

-- a part of s
part_here : (s : List ℕ) (at n : ℕ) → at + n ≤ length s → bytes_at s at n ≡ take n (drop at s)
unfolding bytes_at
part_here s at n h = simp (has_room_lem s at n h)

pub part_bytes : (s : List ℕ) (at n : ℕ) → Bytes s → Bytes (bytes_at s at n)
unfolding bytes_at
part_bytes s at n h = go (fits s at n)
  where
    go : (b : Bool) → Bytes (pick b (take n (drop at s)) [])
    go true = bytes_part s at n h
    go false = tt

part_size : (s : List ℕ) (at n : ℕ) → at + n ≤ length s → length (bytes_at s at n) ≡ n
part_size s at n h = rw (part_here s at n h) (length-take-le n (drop at s) (simp length-drop (omega arith)))

took_part : (s : List ℕ) (at n : ℕ) → at + n ≤ length s → Took s at (bytes_at s at n) (at + n) (Bytes (bytes_at s at n))
took_part s at n h = record {
  ends = ap (λ (k : ℕ). at + k) (sym (part_size s at n h));
  room = λ k. h;
  stands = λ b k. rw (part_here s at n h) (stands_part s at n h);
  within = part_bytes s at n;
}

-- the network type is the kind's
kind_is : (n : ℕ) {k : Kind} → kind_in n ≡ Ok k → n ≡ network_type k
unfolding kind_in
kind_is n {k} e =
    chosen (eqb n 1) _ _ e (λ e1.
    chosen (eqb n 2) _ _ e1 (λ e2.
    chosen (eqb n 3) _ _ e2 (λ z. never (cc)) (is Kind.FlexRay)) (is Kind.Lin)) (is Kind.Can)
  where
    is : (j : Kind) → eqb n (network_type j) ≡ true → ◌≡◌ {A = Result Kind Refusal} (Ok j) (Ok k) → n ≡ network_type k
    is j f q = rw (← ok_is q) (eqb-true n (network_type j) f)

-- the fields, each with what it says of the item
pub record FlagsGot (s : List ℕ) (at : ℕ) (kind : Kind) (set next : ℕ) : Type 0 where
  pub took : Took s at ((set * 32 + network_type kind) ∷ []) next (set * 32 + network_type kind < 256)
  pub ok : set_ok set ≡ true

pub record StateGot (s : List ℕ) (at : ℕ) (kind : Kind) (present : Bool) (state : Option ℕ) (next : ℕ) : Type 0 where
  pub took : Took s at (state_bytes state) next (StateFits state)
  pub here : state_bit state ≡ bit present
  pub ok : state_ok kind state ≡ true

pub record IdentGot (s : List ℕ) (at : ℕ) (kind : Kind) (present : Bool) (alone : Bool) (ident : Ident) (next : ℕ) : Type 0 where
  pub took : Took s at (ident_bytes ident) next (IdentFits ident)
  pub here : ident_bit ident ≡ bit present
  pub ok : ident_ok ident ≡ true
  pub same : kind_of ident ≡ kind
  pub goes : (set : ℕ) → alone_in set ≡ alone → set_ok set ≡ true → set_for ident set ≡ true

pub record LoadGot (s : List ℕ) (at most : ℕ) (carries : Bool) (start len next : ℕ) : Type 0 where
  pub took : Took s at (load_bytes carries (bytes_at s start len)) next (Bytes (load_bytes carries (bytes_at s start len)))
  pub size : length (bytes_at s start len) ≡ len
  pub ok : load_ok carries most len ≡ true
  pub place : start ≡ at + bit carries

took_none : (s : List ℕ) (at : ℕ) → Took s at [] at Unit
took_none s at = record { ends = omega arith; room = λ h. h; stands = λ b h. stands_none s at h; within = λ b. tt }

load_is : {a b c x y z : ℕ}
    → ◌≡◌ {A = Result Load Refusal} (Ok (record { start = a; len = b; next = c })) (Ok (record { start = x; len = y; next = z }))
    → (a ≡ x) × (b ≡ y) × (c ≡ z)
load_is e =
    let q = ok_is e in
    (ap (λ (r : Load). r.start) q, ap (λ (r : Load). r.len) q, ap (λ (r : Load). r.next) q)

module _ (s : List ℕ) (at : ℕ) where
  pub flags_got : {kind : Kind} {set next : ℕ} → read_flags s at ≡ Ok (kind, set, next) → FlagsGot s at kind set next
  unfolding read_flags
  flags_got {kind} {set} {next} e =
      in_some (get_of 1 s at) _ _ e (λ z. never (cc)) (λ v p e1.
      in_ok (kind_in (v.0 % 32)) _ e1 (λ y z. never (cc)) (λ k q e2.
      chosen (set_ok (v.0 / 32)) _ _ e2 (λ z. never (cc)) (λ f e3.
      let x = ok_three e3 in
      let m = kind_is (v.0 % 32) q in
      let d : v.0 / 32 * 32 + network_type k ≡ v.0 = omega arith in
      rw (← x.0, ← x.1, ← x.2) record { took = rw d (took8 s at p); ok = f })))

  pub state_got : {kind : Kind} {present : Bool} {state : Option ℕ} {next : ℕ} → read_state s at kind present ≡ Ok (state, next)
      → StateGot s at kind present state next
  unfolding read_state
  state_got {kind} {present = true} {state} {next} e =
      in_some (get_of 1 s at) _ _ e (λ z. never (cc)) (λ v p e1.
      chosen (state_ok kind (Some v.0)) _ _ e1 (λ z. never (cc)) (λ f e2.
      let x = ok_two e2 in
      rw (← x.0, ← x.1) record { took = took8 s at p; here = refl; ok = f }))
  state_got {kind} {present = false} {state} {next} e =
      let x = ok_two e in
      rw (← x.0, ← x.1) record { took = took_none s at; here = refl; ok = refl }

  can_got : {alone : Bool} {ident : Ident} {next : ℕ} → read_can s at ≡ Ok (ident, next) → IdentGot s at Kind.Can true alone ident next
  unfolding read_can can_ident
  can_got {ident} {next} e =
      in_some (get_of 4 s at) _ _ e (λ z. never (cc)) (λ v p e1.
      chosen (can_zero v.0) _ _ e1 (λ z. never (cc)) (λ f e2.
      chosen (can_range v.0) _ _ e2 (λ z. never (cc)) (λ g e3.
      let x = ok_two e3 in
      rw (← x.0, ← x.1) record { took = took s at 4 (omega arith) p; here = refl; ok = simp (f, g); same = refl; goes = λ set a k. k })))

  lin_got : {alone : Bool} {ident : Ident} {next : ℕ} → read_lin s at ≡ Ok (ident, next) → IdentGot s at Kind.Lin true alone ident next
  unfolding read_lin lin_ident
  lin_got {ident} {next} e =
      in_some (get_of 1 s at) _ _ e (λ z. never (cc)) (λ v p e1.
      chosen (pid_ok v.0) _ _ e1 (λ z. never (cc)) (λ f e2.
      let x = ok_two e2 in
      rw (← x.0, ← x.1) record { took = took8 s at p; here = refl; ok = f; same = refl; goes = λ set a k. k }))

  -- the three bytes of a FlexRay id
  abbrev front : ℕ
  front = get_or s at 0

  abbrev low : ℕ
  low = get_or s (at + 1) 0

  abbrev cycle : ℕ
  cycle = get_or s (at + 2) 0

  three : at + 3 ≤ length s → Stands s at (front ∷ low ∷ cycle ∷ [])
  three h = join (join (byte_stands s at (omega arith)) (byte_stands s (at + 1) (omega arith))) (byte_stands s (at + 2) (omega arith))

  frame_got : {alone : Bool} {ident : Ident} {n next : ℕ} → part_of s at 3 ≡ Some n → front / 8 % 8 ≡ 1
      → frame_ident (front / 64) (front % 8 * 256 + low) cycle n ≡ Ok (ident, next) → IdentGot s at Kind.FlexRay true alone ident next
  unfolding frame_ident
  frame_got {ident = ident} {n = n} {next = next} p m e =
      chosen (flexray_range (front / 64) (front % 8 * 256 + low) cycle) _ _ e (λ z. never (cc)) (λ g q.
      let x = ok_two q in
      let r = part_room s at 3 p in
      rw (← x.0, ← x.1) record {
        took = record { ends = r.1; room = λ h. omega arith; stands = λ b h. laid r.0 (bytes-at s (at + 1) b); within = λ b. tt };
        here = refl;
        ok = g;
        same = refl;
        goes = λ set a k. k;
      })
    where
      laid : at + 3 ≤ length s → low < 256 → Stands s at (flexray_bytes (front / 64) (front % 8 * 256 + low) cycle)
      laid h l =
          let p : front / 64 * 64 + 8 + (front % 8 * 256 + low) / 256 ≡ front = omega arith in
          let q : (front % 8 * 256 + low) % 256 ≡ low = omega arith in
          rw (p, q) (three h)

  error_got : {ident : Ident} {n next : ℕ} → part_of s at 3 ≡ Some n → front / 8 % 8 ≡ 0
      → error_ident (front / 64) (front % 8 * 256 + low) cycle n ≡ Ok (ident, next) → IdentGot s at Kind.FlexRay true true ident next
  unfolding error_ident
  error_got {ident} {n} {next} p m e =
      chosen (channels_ok (front / 64) && eqb (front % 8 * 256 + low) 0 && eqb cycle 0) _ _ e (λ z. never (cc)) (λ g q.
      let x = ok_two q in
      let r = part_room s at 3 p in
      let k = and_l (channels_ok (front / 64) && eqb (front % 8 * 256 + low) 0) (eqb cycle 0) g in
      let i = eqb-true (front % 8 * 256 + low) 0 (and_r (channels_ok (front / 64)) (eqb (front % 8 * 256 + low) 0) k) in
      let j = eqb-true cycle 0 (and_r (channels_ok (front / 64) && eqb (front % 8 * 256 + low) 0) (eqb cycle 0) g) in
      rw (← x.0, ← x.1) record {
        took = record { ends = r.1; room = λ h. omega arith; stands = λ b h. laid r.0 i j; within = λ b. tt };
        here = refl;
        ok = and_l (channels_ok (front / 64)) (eqb (front % 8 * 256 + low) 0) k;
        same = refl;
        goes = λ set a z. a;
      })
    where
      laid : at + 3 ≤ length s → front % 8 * 256 + low ≡ 0 → cycle ≡ 0 → Stands s at (error_bytes (front / 64))
      laid h i j =
          let p : front / 64 * 64 ≡ front = omega arith in
          let q : low ≡ 0 = omega arith in
          rw p (rw (q, j) at (three h))

  flexray_got : {alone : Bool} {ident : Ident} {next : ℕ} → read_flexray s at alone ≡ Ok (ident, next)
      → IdentGot s at Kind.FlexRay true alone ident next
  unfolding read_flexray flexray_ident
  flexray_got {alone} {ident} {next} e =
      in_some (part_of s at 3) _ _ e (λ z. never (cc)) (λ n p e1.
      chosen (eqb (front / 8 % 8) 1) _ _ e1 (λ e2.
      chosen (alone && eqb (front / 8 % 8) 0) _ _ e2 (λ z. never (cc)) (λ f e3.
      rw (and_l alone (eqb (front / 8 % 8) 0) f) (error_got p (eqb-true (front / 8 % 8) 0 (and_r alone (eqb (front / 8 % 8) 0) f)) e3)))
      (λ f e2. frame_got p (eqb-true (front / 8 % 8) 1 f) e2))

  pub ident_got : {kind : Kind} {present : Bool} {alone : Bool} {ident : Ident} {next : ℕ}
      → read_ident s at kind present alone ≡ Ok (ident, next) → IdentGot s at kind present alone ident next
  unfolding read_ident
  ident_got {kind = Kind.Can} {present = true} e = can_got e
  ident_got {kind = Kind.Lin} {present = true} e = lin_got e
  ident_got {kind = Kind.FlexRay} {present = true} e = flexray_got e
  ident_got {kind} {present = false} {ident = ident} {next = next} e =
      let x = ok_two e in
      rw (← x.0, ← x.1) record { took = took_none s at; here = refl; ok = refl; same = refl; goes = λ set a k. k }

  -- a payload, or none
  pub load_got : {most : ℕ} {carries : Bool} {start len next : ℕ} → read_load s at most carries ≡ Ok (record { start = start; len = len; next = next })
      → LoadGot s at most carries start len next
  unfolding read_load
  load_got {most} {carries = true} {start} {len} {next} e =
      in_some (get_of 1 s at) _ _ e (λ z. never (cc)) (λ v p e1.
      passed (ltb most v.0) _ _ e1 (λ z. never (cc)) (λ f e2.
      in_some (part_of s v.1 v.0) _ _ e2 (λ z. never (cc)) (λ m q e3.
      let x = load_is e3 in
      let r = part_room s v.1 v.0 q in
      let l = part_size s v.1 v.0 r.0 in
      let a = took8 s at p in
      rw (← x.0, ← x.1, ← x.2) record {
        took = rw (l, r.1) (both a (took_part s v.1 v.0 r.0));
        size = l;
        ok = le-leb v.0 most (ltb-false most v.0 f);
        place = a.ends;
      })))
  load_got {most} {carries = false} {start} {len} {next} e =
      let x = load_is e in
      rw (← x.0, ← x.1, ← x.2) record { took = took_none s at; size = ap length (part_none s at); ok = refl; place = omega arith }
