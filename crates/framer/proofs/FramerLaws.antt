-- Laws of the framer's definitions.
use Rattle.std.proofs.Common.{◌≡◌, ℕ, ◌+◌, ◌-◌, ◌/◌, ◌<◌, ◌≤◌, Bool, true, false, ◌||◌, eqb, ltb, leb, List, length, take, drop, replicate, sym, refl, ◌∙◌, true≢false, arith, length-take, ltb-false, ltb-true, le-ltb, lt-ltb, eq-eqb, rules, not, ne_eqb, le-leb, leb-true}
use mathlib.Core.Bool.{false≢true}
use Rattle.codec.specs.Choice.{pick}
use Rattle.codec.proofs.BoolLaws.{and_l, and_r}
use borrow.Author.Tests.{lt-leb, eqb-false, not-true}
use Rattle.codec.specs.Time.{ns, elapsed, ticks_of, behind_by, overdue_of}
use Rattle.codec.specs.Item.{item_length}
use Rattle.codec.specs.declared.time.Time.{Time}
use Rattle.framer.specs.declared.offer.Offer.{Offer}
use Rattle.framer.specs.declared.meter.Meter.{Meter}
use Rattle.codec.specs.Number.{over, fits, Wrote}
use Rattle.framer.specs.declared.cause.Cause.{Cause}
use Rattle.framer.specs.declared.queue.Queue.{Queue}
use Rattle.std.specs.Prelude.{Option, Result, Ok, Err}
use Rattle.framer.specs.Cause.{number_of, answer_of, guard}
use Rattle.framer.specs.Queue.{slot_at, queued, length_at}
use Rattle.framer.specs.Meter.{closes_for, is_within, back_in, item_of, sound_meter, Sound, start_of, closed_meter, slot_of, counted, placed_meter, taken_meter, failed_meter, offset_for}
use Rattle.framer.specs.Framer.{closed, begun, laid_out, item_size, filled_meter, filled_bytes, placed, added, add, passed, ready_of, take_of, out_of}
use Rattle.framer.specs.declared.framer.Framer.{Framer}
use Rattle.codec.specs.declared.item.Item.{Item}
use Rattle.codec.specs.Field.{bytes_at}
use Rattle.codec.proofs.NumberLaws.{kept}

-- rule 2, one cause after the other
pub closes_never : (m : Meter) (t : Time) (o : Offer) (n : ℕ) → m.filled ≡ 0 → false ≡ closes_for m t o n
unfolding closes_for
closes_never m t o n e = rw (eq-eqb m.filled 0 e)

pub closes_far : (m : Meter) (t : Time) (o : Offer) (n : ℕ) → (m.filled ≡ 0 → ⊥) → is_within (elapsed (ns m.time) (ns t)) ≡ false → true ≡ closes_for m t o n
unfolding closes_for
closes_far m t o n e w = rw (ne_eqb m.filled 0 e, w)

pub closes_over : (m : Meter) (t : Time) (o : Offer) (n : ℕ) → (m.filled ≡ 0 → ⊥) → is_within (elapsed (ns m.time) (ns t)) ≡ true → m.size < m.filled → true ≡ closes_for m t o n
unfolding closes_for
closes_over m t o n e w h =
    rw (ne_eqb m.filled 0 e, w, lt-ltb m.size (m.filled + item_length (item_of m.lost (record { 0 = 0 }) o) n) (omega arith))

shift : (a b k : ℕ) → b ≤ a → ltb (a - b) k ≡ ltb a (b + k)
shift a b k h = go (ltb (a - b) k) refl
  where
    go : (c : Bool) → ltb (a - b) k ≡ c → ltb (a - b) k ≡ ltb a (b + k)
    go true e = e ∙ sym (lt-ltb a (b + k) (omega (arith, ltb-true (a - b) k e)))
    go false e = e ∙ sym (le-ltb a (b + k) (omega (arith, ltb-false (a - b) k e)))

pub closes_by : (m : Meter) (t : Time) (o : Offer) (n k : ℕ) → (m.filled ≡ 0 → ⊥) → is_within (elapsed (ns m.time) (ns t)) ≡ true → m.filled ≤ m.size
    → k ≡ item_length (item_of m.lost (record { 0 = 0 }) o) n → ltb (m.size - m.filled) k ≡ closes_for m t o n
unfolding closes_for
closes_by m t o n k e w h g = rw (ne_eqb m.filled 0 e, w, ← g) (shift m.size m.filled k h)

-- what is told of the measure is how far the clock is behind, and 0 where it is not
pub back_by : (f t : ℕ) → (back_in (elapsed f t)).0 ≡ behind_by f t
unfolding elapsed ticks_of
back_by f t = go (ltb t f) refl (leb ((t - f) / 10000) 65535) refl
  where
    go : (b : Bool) → ltb t f ≡ b → (d : Bool) → leb ((t - f) / 10000) 65535 ≡ d → (back_in (elapsed f t)).0 ≡ behind_by f t
    go true e d g = rw e
    go false e true g = let h : f ≤ t = ltb-false t f e in rw (e, g) (omega arith)
    go false e false g = let h : f ≤ t = ltb-false t f e in rw (e, g) (omega arith)

-- what a sound meter is
pub sounds : (m : Meter) → sound_meter m ≡ true → Sound m
unfolding sound_meter
sounds m e = record {
  size_least = search (and_l, and_r, leb-true) depth 14;
  size_most = search (and_l, and_r, leb-true) depth 14;
  room_least = search (and_l, and_r, leb-true) depth 14;
  room_most = search (and_l, and_r, leb-true) depth 14;
  deadline = search (and_l, and_r, leb-true) depth 14;
  filled = search (and_l, and_r, leb-true) depth 14;
  header = search (and_l, and_r) depth 14;
  time = search (and_l, and_r) depth 14;
  first = search (and_l, and_r, leb-true) depth 14;
  waiting = search (and_l, and_r, leb-true) depth 14;
}

pub sound_flag : {m : Meter} → Sound m → sound_meter m ≡ true
unfolding sound_meter
sound_flag {m} s = rw (
  le-leb 32 m.size s.size_least,
  le-leb m.size 1024 s.size_most,
  le-leb 1 m.room s.room_least,
  le-leb m.room 8 s.room_most,
  le-leb m.deadline.0 655 s.deadline,
  le-leb m.filled m.size s.filled,
  s.header,
  s.time,
  le-leb m.first 7 s.first,
  le-leb m.waiting m.room s.waiting,
)

pub small : (m : Meter) → sound_meter m ≡ true → m.filled ≤ 1024
small m e = let s = sounds m e in omega (arith, s.filled, s.size_most)

-- an item starts behind a header
start : (n : ℕ) → (eqb n 0 || leb 14 n) ≡ true → 14 ≤ pick (eqb n 0) 14 n
start n e = go (eqb n 0) refl
  where
    go : (b : Bool) → eqb n 0 ≡ b → 14 ≤ pick (eqb n 0) 14 n
    go true g = rw g (omega arith)
    go false g = rw g (leb-true 14 n (rw g at e))

pub start_least : (m : Meter) → sound_meter m ≡ true → 14 ≤ start_of m
unfolding start_of
start_least m e = start m.filled (sounds m e).header

-- closing
pub closed_size : (m : Meter) → ((closed_meter m).size ≡ m.size) × ((closed_meter m).filled ≡ 0)
unfolding closed_meter
closed_size m = go (ltb m.waiting m.room) refl
  where
    go : (b : Bool) → ltb m.waiting m.room ≡ b → ((closed_meter m).size ≡ m.size) × ((closed_meter m).filled ≡ 0)
    go true e = (rw e, rw e)
    go false e = (rw e, rw e)

pub close_kept : (w : Framer) (m : Meter) (q : Queue) (k : ℕ) (frame : List ℕ) → m ≡ closed_meter w.meter → w.meter.waiting < w.meter.room
    → k ≡ slot_of w.meter → frame ≡ take w.meter.filled w.bytes → q ≡ queued w.queue k frame
    → record { meter = m; bytes = replicate 1024 0; queue = q } ≡ closed w
unfolding closed
close_kept w m q k frame em h ek ef eq = rw (lt-ltb w.meter.waiting w.meter.room h, ← em, ← ek, ← ef, ← eq)

pub close_lost : (w : Framer) (m : Meter) → m ≡ closed_meter w.meter → w.meter.room ≤ w.meter.waiting
    → record { meter = m; bytes = replicate 1024 0; queue = w.queue } ≡ closed w
unfolding closed
close_lost w m em h = rw (le-ltb w.meter.waiting w.meter.room h, ← em)

-- adding: the frame with the item
pub fill_by : (l : List ℕ) (m : Meter) (t : Time) (o : Offer) (payload : List ℕ) (item : Item) (n : ℕ) (after : Meter) (at : ℕ) (begin end : List ℕ)
    → item ≡ item_of m.lost (offset_for m t) o → n ≡ item_length item (length payload) → after ≡ placed_meter m t n
    → at ≡ start_of m → begin ≡ begun l m t → end ≡ laid_out begin at item payload (after.filled - 14)
    → (after ≡ filled_meter m t o (length payload)) × (end ≡ filled_bytes l m t o payload)
unfolding filled_bytes filled_meter item_size
fill_by l m t o payload item n after at begin end ei en ea es eb ee = (rw (← ei, ← en, ← ea), rw (← ei, ← en, ← ea, ← es, ← eb, ← ee))

pub place_by : (w : Framer) (t : Time) (o : Offer) (payload bytes : List ℕ) (m : Meter)
    → (m ≡ filled_meter w.meter t o (length payload)) × (bytes ≡ filled_bytes w.bytes w.meter t o payload)
    → record { meter = m; bytes = bytes; queue = w.queue } ≡ placed w t o payload
unfolding placed
place_by w t o payload bytes m e = rw (e.0, e.1)

pub add_unsound : (w : Framer) (t : Time) (o : Offer) (payload : List ℕ) → sound_meter w.meter ≡ false → w ≡ add w t o payload
unfolding add
add_unsound w t o payload e = rw e

pub add_long : (w : Framer) (t : Time) (o : Offer) (payload : List ℕ) → sound_meter w.meter ≡ true → 254 < length payload → w ≡ add w t o payload
unfolding add
add_long w t o payload e h = rw (e, lt-leb (length payload) 254 h)

pub add_is : (w : Framer) (t : Time) (o : Offer) (payload : List ℕ) → sound_meter w.meter ≡ true → length payload ≤ 254 → added w t o payload ≡ add w t o payload
unfolding add
add_is w t o payload e h = rw (e, le-leb (length payload) 254 h)

pub add_closing : (w x r : Framer) (t : Time) (o : Offer) (payload : List ℕ) → sound_meter w.meter ≡ true → length payload ≤ 254
    → closes_for w.meter t o (length payload) ≡ true → x ≡ closed w → r ≡ placed x t o payload → r ≡ add w t o payload
unfolding added
add_closing w x r t o payload e h g ex er = rw (← add_is w t o payload e h, g, ← ex, ← er)

pub add_staying : (w r : Framer) (t : Time) (o : Offer) (payload : List ℕ) → sound_meter w.meter ≡ true → length payload ≤ 254
    → closes_for w.meter t o (length payload) ≡ false → r ≡ placed w t o payload → r ≡ add w t o payload
unfolding added
add_staying w r t o payload e h g er = rw (← add_is w t o payload e h, g, ← er)

pub closed-room : (w x : Framer) → x ≡ closed w → (x.meter.filled ≤ 1024) × (14 ≤ start_of x.meter)
unfolding closed start_of
closed-room w x e =
    let f : x.meter.filled ≡ 0 = rw e (closed_size w.meter).1 in
    (omega arith, rw f (omega arith))

-- the deadline
pub pass_unsound : (w : Framer) (t : Time) → sound_meter w.meter ≡ false → w ≡ passed w t
unfolding passed
pass_unsound w t e = rw e

pub pass_empty : (w : Framer) (t : Time) → sound_meter w.meter ≡ true → w.meter.filled ≡ 0 → w ≡ passed w t
unfolding passed
pass_empty w t e h = rw (e, eq-eqb w.meter.filled 0 h)

pub pass_by : (w r : Framer) (t : Time) (b : Bool) → sound_meter w.meter ≡ true → (w.meter.filled ≡ 0 → ⊥)
    → overdue_of (ns w.meter.time) (ns t) w.meter.deadline.0 ≡ b → r ≡ pick b (closed w) w → r ≡ passed w t
unfolding passed
pass_by w r t b e h g er = rw (e, ne_eqb w.meter.filled 0 h, g, ← er)

-- taking
-- the part of a slot is as long as its frame
part_length : (s : List ℕ) (at n : ℕ) → length (bytes_at s at n) ≤ n
unfolding bytes_at
part_length s at n = go (fits s at n) refl
  where
    go : (b : Bool) → fits s at n ≡ b → length (bytes_at s at n) ≤ n
    go true e = rw e (omega (arith, length-take n (drop at s)))
    go false e = rw e (omega arith)

-- a cause has a number above 0
pub caused : (c : Cause) → 1 ≤ number_of c
caused Cause.Unmatched = omega arith
caused Cause.NoSource = omega arith
caused Cause.NotStarted = omega arith
caused Cause.OtherKind = omega arith
caused Cause.OutOfRange = omega arith
caused Cause.PayloadTooLong = omega arith
caused Cause.BadTime = omega arith
caused Cause.TooBig = omega arith
caused Cause.BadFilter = omega arith
caused Cause.NoPlace = omega arith
caused Cause.NoFilter = omega arith
caused Cause.ShortOutput = omega arith
caused Cause.NothingWaits = omega arith
caused Cause.BadSetup = omega arith
caused Cause.NothingOut = omega arith
caused Cause.Unsound = omega arith

pub answered_0 : {A : Type 0} (r : Result A Cause) → answer_of r ≡ 0 → (x : A) × (r ≡ Ok x)
answered_0 (Ok x) e = (x, refl)
answered_0 (Err c) e = let z : ⊥ = omega (arith, caused c) in absurd z

-- a frame that a take gets: the rule holds, and the output has room
pub record Ready (w : Framer) (room n : ℕ) : Type 0 where
  pub sound : sound_meter w.meter ≡ true
  pub waits : w.meter.waiting ≡ 0 → ⊥
  pub long : n ≡ length_at w.queue w.meter.first
  pub fits : n ≤ room

pub passed-guard : {A : Type 0} (b : Bool) (c : Cause) (rest : Result A Cause) (x : A) → guard b c rest ≡ Ok x → (b ≡ true) × (rest ≡ Ok x)
passed-guard true c rest x e = (refl, e)
passed-guard false c rest x e = absurd (search rules)

pub readied : (w : Framer) (room n : ℕ) → ready_of w room ≡ Ok n → Ready w room n
unfolding ready_of
readied w room n e =
    let a = passed-guard (sound_meter w.meter) Cause.Unsound _ n e in
    let b = passed-guard (not (eqb w.meter.waiting 0)) Cause.NothingWaits _ n a.1 in
    let d = passed-guard (leb (length_at w.queue w.meter.first) room) Cause.ShortOutput _ n b.1 in
    let k : length_at w.queue w.meter.first ≡ n = search rules in
    record { sound = a.0; waits = eqb-false w.meter.waiting 0 (not-true _ b.0); long = sym k; fits = omega (arith, k, leb-true (length_at w.queue w.meter.first) room d.0) }

pub take_refused : (w : Framer) (out : List ℕ) (r : Result ℕ Cause) (c : Cause) → r ≡ ready_of w (length out) → r ≡ Err c
    → (record { framer = w; answer = r } ≡ take_of w (length out)) × (out ≡ out_of w out)
unfolding take_of out_of
take_refused w out r c e q = (rw (← e, q), rw (← e, q))

pub take_done : (w : Framer) (out : List ℕ) (r : Result ℕ Cause) (n : ℕ) (m : Meter) (part after : List ℕ) {k : Option ℕ} → r ≡ ready_of w (length out)
    → r ≡ Ok n → m ≡ taken_meter w.meter → part ≡ bytes_at (slot_at w.queue w.meter.first).bytes 0 n → Wrote true out 0 part after k
    → (record { framer = record { meter = m; bytes = w.bytes; queue = w.queue }; answer = Ok n } ≡ take_of w (length out)) × (after ≡ out_of w out)
unfolding take_of out_of
take_done w out r n m part after e g em ep ew =
    let z = readied w (length out) n (sym e ∙ g) in
    let f : length part ≤ n = rw ep (part_length (slot_at w.queue w.meter.first).bytes 0 n) in
    let q : after ≡ over out 0 part = kept ew (omega (arith, z.fits)) in
    (rw (← e, g, em), rw (← e, g, ← z.long, ← ep) q)

-- a frame with an item is past its header
pub placed_least : (m : Meter) (t : Time) (n : ℕ) → 14 ≤ start_of m → 14 ≤ (placed_meter m t n).filled
unfolding start_of placed_meter
placed_least m t n h = go (eqb m.filled 0) refl
  where
    go : (b : Bool) → eqb m.filled 0 ≡ b → 14 ≤ (placed_meter m t n).filled
    go true e = rw e (omega arith)
    go false e = let g : 14 ≤ m.filled = rw e at h in rw e (omega arith)

-- a choice where its test is known; the test is a field of what is chosen, so it cannot be rewritten by itself
first_chosen : {A : Type 0} (b : Bool) (x y : A) → b ≡ true → x ≡ pick b x y
first_chosen true x y e = refl
first_chosen false x y e = absurd (false≢true e)

second_chosen : {A : Type 0} (b : Bool) (x y : A) → b ≡ false → y ≡ pick b x y
second_chosen false x y e = refl
second_chosen true x y e = absurd (true≢false e)

-- a failed send, where none is out and where a frame is
pub fail_none : (m : Meter) → m.out ≡ false → m ≡ failed_meter m
unfolding failed_meter
fail_none m e = second_chosen m.out _ m e

pub fail_out : (m : Meter) (n : ℕ) → m.out ≡ true → n ≡ counted m.failures
    → record {
      size = m.size;
      room = m.room;
      deadline = m.deadline;
      filled = m.filled;
      time = m.time;
      sequence = m.sequence;
      lost = true;
      discards = m.discards;
      out = false;
      failures = n;
      first = m.first;
      waiting = m.waiting;
    } ≡ failed_meter m
unfolding failed_meter
fail_out m n e q = rw q (first_chosen m.out _ m e)
