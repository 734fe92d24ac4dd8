-- The framer is the ledger, and stays so with every operation.
use Prim.Native.Nat.{ℕ, ◌+◌, ◌%◌, ◌≤◌, ◌<◌}
use mathlib.Core.Path.{◌≡◌, refl, sym, ◌∙◌, ap}
use mathlib.Core.Bool.{Bool, true, false, not, ◌&&◌, true≢false}
use mathlib.Core.List.{List, [], ◌∷◌, map, map-append, append-nil}
use native.Mathlib.Omega.{arith}
use native.Mathlib.Numerals.{add-one}
use lib.ListN.{length, take, drop}
use lib.Dec.{eqb}
use borrow.Author.Tests.{ltb-true}
use Rattle.codec.specs.Choice.{pick}
use Rattle.codec.specs.Time.{ns, overdue_of}
use Rattle.codec.specs.declared.time.Time.{Time}
use Rattle.framer.specs.Meter.{limits_ok, empty_meter, sound_meter, Sound, closes_for, slot_of, closed_meter, taken_meter, failed_meter}
use Rattle.framer.specs.Queue.{empty_queue, queued}
use Rattle.framer.specs.Framer.{empty_framer, closed, placed, added, add, passed, failed}
use Rattle.framer.specs.declared.meter.Meter.{Meter}
use Rattle.framer.specs.declared.framer.Framer.{Framer}
use Rattle.framer.proofs.FramerLaws.{sounds, sound_flag, add_is}
use Rattle.framer.proofs.KeptLaws.{kept_empty, kept_add, kept_pass, kept_taken, kept_failed}
use Rattle.history.specs.Account.{Event}
use Rattle.history.specs.Ledger.{Limits, Frame, Ledger, Op, total, is_empty, waiting_in, has_room, closes_before, overdue, close, begin, enter, mirrored, taken, is_out, empty_ledger, discard_count, failure_count, step_l, run_l}
use Rattle.history.specs.Ledger as Rules
use Rattle.history.specs.History.{slots_from, All}
use Rattle.history.proofs.Ground.Machine.{offer_in, laid, Fit, FitOp, step_w, run_w}
use Rattle.history.proofs.Ground.ListLaws.{empty_is}
use Rattle.history.proofs.Ledger.Moves.{Ready, begin_opens, begin-stays, closes_filled, overdue_filled, open_ready, taken_none, taken_one, opened, failed_one, Out, none_out, one_out, out_or_not, failed-none, failed-one}
use Rattle.history.proofs.Ledger.LedgerLaws.{SoundL, close_waiting, close_waits, took_waiting, step_sound, empty_sound}
use Rattle.history.proofs.Ledger.FrameLaws.{laid_length}
use Rattle.history.proofs.Framer.SlotLaws.{Store, push, put_store, empty_store}
use Rattle.history.proofs.Framer.MeterLaws.{filled_in, meter_of, closes_same, overdue_same, take_meter, fail_meter_none, fail_meter, filled_open, close_meter, begin_meter, enter_meter}
use Rattle.history.proofs.Framer.FillLaws.{image_in, image_front, begin_bytes, enter_bytes}

-- the same numbers, the array of the frame being filled, and in the slots the frames that wait
pub record Tie (c : Limits) (w : Framer) (l : Ledger) : Type 0 where
  pub meter : w.meter ≡ meter_of c l
  pub bytes : w.bytes ≡ image_in l.filling
  pub slots : slots_from w.queue (length l.sends) (length (waiting_in l)) ≡ map laid (waiting_in l)
  pub store : Store w.queue

-- rule 3: the frame goes behind those that wait, or nowhere
module _ (c : Limits) (w : Framer) (l : Ledger) (t : Tie c w l) (s : SoundL c l) (e : is_empty l.filling.lines ≡ false)
    (h : 14 + total l.filling.lines ≤ 1024) (r : c.room ≤ 8) where
  frame_is : take w.meter.filled w.bytes ≡ laid l.filling
  unfolding meter_of
  frame_is = rw (t.meter, t.bytes) (image_front l.filling e)

  queue_is : (closed w).queue ≡ pick (has_room c l) (queued w.queue ((length l.sends + length (waiting_in l)) % 8) (laid l.filling)) w.queue
  unfolding closed slot_of has_room meter_of
  queue_is =
      let m : (length l.sends % 8 + length (waiting_in l)) % 8 ≡ (length l.sends + length (waiting_in l)) % 8 = omega arith in
      rw (frame_is, t.meter, m)

  close_slots : (b : Bool) → has_room c l ≡ b
      → (slots_from (closed w).queue (length l.sends) (length (waiting_in (close c l))) ≡ map laid (waiting_in (close c l))) × Store (closed w).queue
  unfolding has_room
  close_slots true q =
      let g : length (laid l.filling) ≤ 1024 = omega (arith, laid_length l.filling) in
      let k : length (waiting_in l) < c.room = ltb-true (length (waiting_in l)) c.room q in
      let a : ℕ = (length l.sends + length (waiting_in l)) % 8 in
      let p = push w.queue a (laid l.filling) t.store (omega arith) g (length l.sends) (length (waiting_in l)) refl (omega arith) in
      rw (queue_is, q) (
        rw (close_waits c l s, close_waiting c l s, q, add-one (length (waiting_in l))) (p ∙ rw t.slots (sym (map-append laid (waiting_in l) (l.filling ∷ [])))),
        put_store w.queue a (laid l.filling) t.store (omega arith) g,
      )
  close_slots false q = rw (queue_is, q) (rw (close_waiting c l s, q, append-nil) t.slots, t.store)

  close_tie : Tie c (closed w) (close c l)
  unfolding close image_in closed
  close_tie =
      let z = close_slots (has_room c l) refl in
      record {
        meter = ap closed_meter t.meter ∙ close_meter c l s;
        bytes = refl;
        slots = z.0;
        store = z.1;
      }

-- rules 1 and 4: one item in a frame that is empty, or that stays open
module _ (c : Limits) (w : Framer) (l : Ledger) (ev : Event) (t : Tie c w l) (f : Fit c ev) (z : c.size ≤ 1024) where
  begin_tie : l.filling.lines ≡ [] → Tie c (placed w ev.time (offer_in ev) ev.payload) (enter ev (opened ev.time l))
  unfolding placed enter waiting_in
  begin_tie e = record {
    meter = rw t.meter (begin_meter c l ev f.state e);
    bytes = rw (t.meter, t.bytes) (begin_bytes c l ev f z e);
    slots = t.slots;
    store = t.store;
  }

  enter_tie : is_empty l.filling.lines ≡ false → Ready c ev l → Tie c (placed w ev.time (offer_in ev) ev.payload) (enter ev l)
  unfolding placed enter waiting_in
  enter_tie e r = record {
    meter = rw t.meter (enter_meter c l ev f.state e);
    bytes = rw (t.meter, t.bytes) (enter_bytes c l ev f z e r);
    slots = t.slots;
    store = t.store;
  }

  place_tie : (is_empty l.filling.lines ≡ false → Ready c ev l) → Tie c (placed w ev.time (offer_in ev) ev.payload) (enter ev (begin ev.time l))
  place_tie k = go (is_empty l.filling.lines) refl
    where
      go : (b : Bool) → is_empty l.filling.lines ≡ b → Tie c (placed w ev.time (offer_in ev) ev.payload) (enter ev (begin ev.time l))
      go true e = let n = empty_is l.filling.lines e in rw (begin_opens ev.time l n) (begin_tie n)
      go false e = rw (begin-stays ev.time l e) (enter_tie e (k e))

-- the tie, and what makes both steps possible
pub record Tied (c : Limits) (w : Framer) (l : Ledger) : Type 0 where
  pub tie : Tie c w l
  pub sound : sound_meter w.meter ≡ true
  pub ledger : SoundL c l

-- the slots of those that wait, where they are known
pub slots_are : (c : Limits) (w : Framer) (l : Ledger) → Tie c w l → (fs : List Frame) → waiting_in l ≡ fs → slots_from w.queue (length l.sends) (length fs) ≡ map laid fs
slots_are c w l t fs e = rw (← e) t.slots

module _ (c : Limits) (w : Framer) (l : Ledger) (t : Tied c w l) where
  pub size_is : w.meter.size ≡ c.size
  unfolding meter_of
  size_is = ap (λ (m : Meter). m.size) t.tie.meter

  in-range : Sound (meter_of c l)
  in-range = sounds (meter_of c l) (rw t.tie.meter at t).sound

  pub size_limit : c.size ≤ 1024
  unfolding meter_of
  size_limit = in-range.size_most

  open_size : is_empty l.filling.lines ≡ false → 14 + total l.filling.lines ≤ 1024
  unfolding meter_of
  open_size e = omega (arith, in-range.filled, size_limit, filled_open l.filling.lines e)

  closed_tie : is_empty l.filling.lines ≡ false → Tie c (closed w) (close c l)
  unfolding meter_of
  closed_tie e = close_tie c w l t.tie t.ledger e (open_size e) in-range.room_most

  -- rules 1, 2 and 4
  event_tie : (ev : Event) → Fit c ev → Tie c (add w ev.time (offer_in ev) ev.payload) (mirrored c ev l)
  unfolding added mirrored
  event_tie ev f =
      let q : closes_for w.meter ev.time (offer_in ev) (length ev.payload) ≡ closes_before c l ev = rw t.tie.meter (closes_same c l ev f.state) in
      rw (← add_is w ev.time (offer_in ev) ev.payload t.sound f.short, q) (go (closes_before c l ev) refl)
    where
      go : (b : Bool) → closes_before c l ev ≡ b
          → Tie c (pick b (placed (closed w) ev.time (offer_in ev) ev.payload) (placed w ev.time (offer_in ev) ev.payload))
          (enter ev (begin ev.time (pick b (close c l) l)))
      go true e =
          place_tie c (closed w) (close c l) ev (closed_tie (closes_filled c l ev e)) f size_limit
          (λ z. absurd (true≢false (unfold close in z)))
      go false e =
          place_tie c w l ev t.tie f size_limit (λ z. open_ready c ev l z e)

  -- rule 6
  deadline_tie : (x : Time) → Tie c (passed w x) (Rules.passed c x l)
  unfolding passed Rules.passed
  deadline_tie x =
      let q : not (eqb w.meter.filled 0) && overdue_of (ns w.meter.time) (ns x) w.meter.deadline.0 ≡ overdue c l x
      = rw t.tie.meter (overdue_same c l x) in
      rw (t.sound, q) (go (overdue c l x) refl)
    where
      go : (b : Bool) → overdue c l x ≡ b → Tie c (pick b (closed w) w) (pick b (close c l) l)
      go true e = closed_tie (overdue_filled c l x e)
      go false e = t.tie

  -- rule 7
  take_slots : (fs : List Frame) → waiting_in l ≡ fs → slots_from w.queue (length (taken l).sends) (length (waiting_in (taken l))) ≡ map laid (waiting_in (taken l))
  take_slots [] e = rw (taken_none l e) t.tie.slots
  take_slots (f ∷ fs) e = rw (taken_one l f fs e, took_waiting l f fs e) (ap (drop 1) (slots_are c w l t.tie (f ∷ fs) e))

  take_tie : Tie c (record { meter = taken_meter w.meter; bytes = w.bytes; queue = w.queue }) (taken l)
  unfolding taken
  take_tie = record {
    meter = rw t.tie.meter (take_meter c l (waiting_in l) refl);
    bytes = t.tie.bytes;
    slots = take_slots (waiting_in l) refl;
    store = t.tie.store;
  }

  -- rule 8
  fail_one_tie : (bs : List Bool) → l.sends ≡ false ∷ bs → Tie c (failed w) (failed_one bs l)
  unfolding failed waiting_in
  fail_one_tie bs e = record {
    meter = ap failed_meter t.tie.meter ∙ fail_meter c l bs e;
    bytes = t.tie.bytes;
    slots = rw e at t.tie.slots;
    store = t.tie.store;
  }

  pub out_is : w.meter.out ≡ is_out l.sends
  unfolding meter_of
  out_is = ap (λ (m : Meter). m.out) t.tie.meter

  fail_tie : Tie c (failed w) (Rules.failed l)
  unfolding failed
  fail_tie = go (out_or_not l.sends)
    where
      go : Out l.sends → Tie c (failed w) (Rules.failed l)
      go (none_out e) = rw (failed-none l e) (record {
        meter = ap failed_meter t.tie.meter ∙ fail_meter_none c l e;
        bytes = t.tie.bytes;
        slots = t.tie.slots;
        store = t.tie.store;
      })
      go (one_out bs e) = rw (failed-one l bs e) (fail_one_tie bs e)

-- each operation keeps the tie
pub step_tied : (c : Limits) (w : Framer) (l : Ledger) (op : Op) → Tied c w l → FitOp c op → Tied c (step_w w op) (step_l c l op)
unfolding offer_in meter_of
step_tied c w l (Rules.event ev) t f = record {
  tie = event_tie c w l t ev f;
  sound = kept_add w ev.time (offer_in ev) ev.payload t.sound f.time (rw t.tie.meter f.size);
  ledger = step_sound c l (Rules.event ev) t.ledger;
}
step_tied c w l (Rules.deadline x) t f =
    record { tie = deadline_tie c w l t x; sound = kept_pass w x t.sound; ledger = step_sound c l (Rules.deadline x) t.ledger }
step_tied c w l Rules.take t f =
    record { tie = take_tie c w l t; sound = sound_flag (kept_taken w.meter (sounds w.meter t.sound)); ledger = step_sound c l Rules.take t.ledger }
step_tied c w l Rules.fail t f =
    record { tie = fail_tie c w l t; sound = kept_failed w t.sound; ledger = step_sound c l Rules.fail t.ledger }

pub run_tied : (c : Limits) (w : Framer) (l : Ledger) (ops : List Op) → Tied c w l → All (FitOp c) ops → Tied c (run_w w ops) (run_l c l ops)
run_tied c w l [] t f = t
run_tied c w l (op ∷ ops) t f = run_tied c (step_w w op) (step_l c l op) ops (step_tied c w l op t f.0) f.1

-- after setup
pub empty_tied : (c : Limits) → limits_ok c.size c.room c.deadline ≡ true
    → Tied c (empty_framer c.size c.room (record { 0 = c.deadline })) empty_ledger
unfolding empty_framer empty_meter empty_queue empty_ledger meter_of image_in waiting_in filled_in discard_count failure_count
empty_tied c h = record {
  tie = record { meter = refl; bytes = refl; slots = refl; store = empty_store };
  sound = kept_empty c.size c.room (record { 0 = c.deadline }) h;
  ledger = empty_sound c;
}
