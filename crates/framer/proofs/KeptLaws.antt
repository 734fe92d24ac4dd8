-- Every call of a sound framer leaves a sound framer.
use Rattle.std.proofs.Common.{◌≡◌, ℕ, ◌+◌, ◌≤◌, Bool, true, false, not, ◌&&◌, ◌||◌, eqb, ltb, leb, List, length, sym, refl, ap, arith, ltb-false, ltb-true, ne_eqb, le-leb, leb-true}
use Rattle.codec.specs.Choice.{pick, bit}
use Rattle.codec.specs.Time.{ns, time_ok, elapsed, overdue_of}
use Rattle.codec.specs.Ident.{ident_bytes}
use Rattle.codec.specs.Item.{item_length, load_length, state_bytes}
use Rattle.codec.specs.declared.time.Time.{Time}
use Rattle.codec.specs.declared.time.Ticks.{Ticks}
use Rattle.codec.specs.declared.time.Millis.{Millis}
use Rattle.framer.specs.declared.offer.Offer.{Offer}
use Rattle.framer.specs.declared.meter.Meter.{Meter}
use Rattle.framer.specs.declared.framer.Framer.{Framer}
use Rattle.framer.specs.Meter.{limits_ok, sound_meter, Sound, empty_meter, state_shown, item_of, offset_for, is_within, closes_for, closed_meter, start_of, placed_meter, taken_meter, failed_meter}
use Rattle.framer.specs.Framer.{closed, item_size, filled_meter, placed, added, add, passed, ready_of, left_by, take_of, failed}
use Rattle.std.specs.Prelude.{Result, Ok, Err}
use Rattle.framer.specs.declared.cause.Cause.{Cause}
use Rattle.framer.proofs.FramerLaws.{sounds, sound_flag, start_least, closed_size, closes_never}
use Rattle.codec.proofs.BoolLaws.{and_l, and_r}
use Rattle.codec.proofs.Opened.{never}

-- the largest that an item of the offer can be: with a state byte
abbrev pub most : Offer → ℕ → ℕ
most o n = 5 + length (ident_bytes o.ident) + load_length o.carries n

shown_most : (lost : Bool) (o : Offer) → length (state_bytes (state_shown lost o)) ≤ 1
unfolding state_shown
shown_most true o = omega arith
shown_most false o = go o.due refl
  where
    go : (b : Bool) → o.due ≡ b → length (state_bytes (state_shown false o)) ≤ 1
    go true e = rw e (omega arith)
    go false e = rw e (omega arith)

pub item_most : (lost : Bool) (offset : Ticks) (o : Offer) (n : ℕ) → item_length (item_of lost offset o) n ≤ most o n
unfolding item_of
item_most lost offset o n = omega (arith, shown_most lost o)

-- after setup
pub limits : (size room deadline : ℕ) → limits_ok size room deadline ≡ true
    → (32 ≤ size) × (size ≤ 1024) × (1 ≤ room) × (room ≤ 8) × (deadline ≤ 655)
unfolding limits_ok
limits size room deadline e = (
  search (and_l, and_r, leb-true) depth 8,
  search (and_l, and_r, leb-true) depth 8,
  search (and_l, and_r, leb-true) depth 8,
  search (and_l, and_r, leb-true) depth 8,
  search (and_l, and_r, leb-true) depth 8,
)

pub kept_empty : (size room : ℕ) (deadline : Millis) → limits_ok size room deadline.0 ≡ true → sound_meter (empty_meter size room deadline) ≡ true
unfolding empty_meter
kept_empty size room deadline e =
    let l = limits size room deadline.0 e in
    sound_flag (record {
      size_least = l.0;
      size_most = l.1;
      room_least = l.2;
      room_most = l.3;
      deadline = l.4;
      filled = omega arith;
      header = refl;
      time = refl;
      first = omega arith;
      waiting = omega arith;
    })

-- closing
kept_closed : (m : Meter) → Sound m → Sound (closed_meter m)
unfolding closed_meter
kept_closed m s = go (ltb m.waiting m.room) refl
  where
    go : (b : Bool) → ltb m.waiting m.room ≡ b → Sound (closed_meter m)
    go true e = rw e record {
      size_least = s.size_least;
      size_most = s.size_most;
      room_least = s.room_least;
      room_most = s.room_most;
      deadline = s.deadline;
      filled = omega arith;
      header = refl;
      time = s.time;
      first = s.first;
      waiting = omega (arith, ltb-true m.waiting m.room e);
    }
    go false e = rw e record {
      size_least = s.size_least;
      size_most = s.size_most;
      room_least = s.room_least;
      room_most = s.room_most;
      deadline = s.deadline;
      filled = omega arith;
      header = refl;
      time = s.time;
      first = s.first;
      waiting = s.waiting;
    }

-- adding an item that fits
headed : (n : ℕ) → 14 ≤ n → (eqb n 0 || leb 14 n) ≡ true
headed n h = rw (ne_eqb n 0 (λ e. let z : ⊥ = omega arith in z), le-leb 14 n h)

kept_placed : (m : Meter) (t : Time) (n : ℕ) → Sound m → time_ok t ≡ true → 14 ≤ start_of m → start_of m + n ≤ m.size → Sound (placed_meter m t n)
unfolding placed_meter start_of
kept_placed m t n s g h f = go (eqb m.filled 0) refl
  where
    go : (b : Bool) → eqb m.filled 0 ≡ b → Sound (placed_meter m t n)
    go true e =
        let k : 14 + n ≤ m.size = rw e at f in
        rw e record {
          size_least = s.size_least;
          size_most = s.size_most;
          room_least = s.room_least;
          room_most = s.room_most;
          deadline = s.deadline;
          filled = k;
          header = headed (14 + n) (omega arith);
          time = g;
          first = s.first;
          waiting = s.waiting;
        }
    go false e =
        let k : m.filled + n ≤ m.size = rw e at f in
        let j : 14 ≤ m.filled = rw e at h in
        rw e record {
          size_least = s.size_least;
          size_most = s.size_most;
          room_least = s.room_least;
          room_most = s.room_most;
          deadline = s.deadline;
          filled = k;
          header = headed (m.filled + n) (omega arith);
          time = s.time;
          first = s.first;
          waiting = s.waiting;
        }

clash : {G : Type 0} → true ≡ false → G
clash e = never (sym (ap bit e))

-- a frame that stays open is in time and has room for the item
pub stays : (m : Meter) (t : Time) (o : Offer) (n : ℕ) → closes_for m t o n ≡ false → eqb m.filled 0 ≡ false
    → (is_within (elapsed (ns m.time) (ns t)) ≡ true) × (m.filled + item_length (item_of m.lost (offset_for m t) o) n ≤ m.size)
unfolding closes_for item_of
stays m t o n e g = go (is_within (elapsed (ns m.time) (ns t))) (ltb m.size (m.filled + item_length (item_of m.lost (record { 0 = 0 }) o) n)) refl refl
  where
    go : (a b : Bool) → is_within (elapsed (ns m.time) (ns t)) ≡ a → ltb m.size (m.filled + item_length (item_of m.lost (record { 0 = 0 }) o) n) ≡ b
        → (is_within (elapsed (ns m.time) (ns t)) ≡ true) × (m.filled + item_length (item_of m.lost (offset_for m t) o) n ≤ m.size)
    go true false p q = (p, ltb-false m.size (m.filled + item_length (item_of m.lost (record { 0 = 0 }) o) n) q)
    go true true p q = clash (rw (g, p, q) at e)
    go false b p q = clash (rw (g, p) at e)

-- there is room for an item in an empty frame, and in one that stays open
pub room : (m : Meter) (t : Time) (o : Offer) (n : ℕ) → 14 + most o n ≤ m.size → closes_for m t o n ≡ false
    → start_of m + item_size m t o n ≤ m.size
unfolding start_of item_size
room m t o n h e = go (eqb m.filled 0) refl
  where
    go : (b : Bool) → eqb m.filled 0 ≡ b → start_of m + item_size m t o n ≤ m.size
    go true g = rw g (omega (arith, item_most m.lost (offset_for m t) o n))
    go false g = rw g (stays m t o n e g).1

kept_place : (w : Framer) (t : Time) (o : Offer) (payload : List ℕ) → Sound w.meter → time_ok t ≡ true → 14 + most o (length payload) ≤ w.meter.size
    → closes_for w.meter t o (length payload) ≡ false → Sound (placed w t o payload).meter
unfolding placed filled_meter
kept_place w t o payload s g h e =
    kept_placed w.meter t (item_size w.meter t o (length payload)) s g (start_least w.meter (sound_flag s)) (room w.meter t o (length payload) h e)

kept_added : (w : Framer) (t : Time) (o : Offer) (payload : List ℕ) → Sound w.meter → time_ok t ≡ true → 14 + most o (length payload) ≤ w.meter.size
    → Sound (added w t o payload).meter
unfolding added closed
kept_added w t o payload s g h = go (closes_for w.meter t o (length payload)) refl
  where
    go : (b : Bool) → closes_for w.meter t o (length payload) ≡ b → Sound (added w t o payload).meter
    go false e = rw e (kept_place w t o payload s g h e)
    go true e =
        let c = closed_size w.meter in
        rw e (kept_place (closed w) t o payload (kept_closed w.meter s) g (omega (arith, c.0)) (sym (closes_never (closed_meter w.meter) t o (length payload) c.1)))

-- an item that fits an empty frame
pub kept_add : (w : Framer) (t : Time) (o : Offer) (payload : List ℕ) → sound_meter w.meter ≡ true → time_ok t ≡ true
    → 14 + most o (length payload) ≤ w.meter.size → sound_meter (add w t o payload).meter ≡ true
unfolding add
kept_add w t o payload e g h = go (leb (length payload) 254) refl
  where
    go : (b : Bool) → leb (length payload) 254 ≡ b → sound_meter (add w t o payload).meter ≡ true
    go true k = rw (e, k) (sound_flag (kept_added w t o payload (sounds w.meter e) g h))
    go false k = rw (e, k) e

-- the deadline
pub kept_pass : (w : Framer) (t : Time) → sound_meter w.meter ≡ true → sound_meter (passed w t).meter ≡ true
unfolding passed closed
kept_pass w t e = rw e (go (not (eqb w.meter.filled 0) && overdue_of (ns w.meter.time) (ns t) w.meter.deadline.0))
  where
    go : (b : Bool) → sound_meter (pick b (closed w) w).meter ≡ true
    go true = sound_flag (kept_closed w.meter (sounds w.meter e))
    go false = e

-- taking
pub kept_taken : (m : Meter) → Sound m → Sound (taken_meter m)
unfolding taken_meter
kept_taken m s = go (eqb m.waiting 0) refl
  where
    go : (b : Bool) → eqb m.waiting 0 ≡ b → Sound (taken_meter m)
    go true e = rw e s
    go false e = rw e record {
      size_least = s.size_least;
      size_most = s.size_most;
      room_least = s.room_least;
      room_most = s.room_most;
      deadline = s.deadline;
      filled = s.filled;
      header = s.header;
      time = s.time;
      first = omega arith;
      waiting = omega (arith, s.waiting);
    }

pub kept_take : (w : Framer) (n : ℕ) → sound_meter w.meter ≡ true → sound_meter (take_of w n).framer.meter ≡ true
unfolding take_of
kept_take w n e = go (ready_of w n)
  where
    go : (r : Result ℕ Cause) → sound_meter (left_by w r).meter ≡ true
    go (Ok k) = sound_flag (kept_taken w.meter (sounds w.meter e))
    go (Err c) = e

-- the rule looks at nothing that a failed send changes
pub kept_failed : (w : Framer) → sound_meter w.meter ≡ true → sound_meter (failed w).meter ≡ true
unfolding failed failed_meter sound_meter
kept_failed w e = go w.meter.out refl
  where
    go : (b : Bool) → w.meter.out ≡ b → sound_meter (failed_meter w.meter) ≡ true
    go true q = rw q e
    go false q = rw q e
