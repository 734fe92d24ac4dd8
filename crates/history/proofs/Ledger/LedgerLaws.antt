-- What the ledger's rules come to: what waits, when a frame closes and is discarded, and which lines were made.
use Prim.Native.Nat.{ℕ, ◌+◌, ◌*◌, ◌≤◌, ◌<◌}
use mathlib.Core.Path.{◌≡◌, refl, sym, ◌∙◌, ap}
use mathlib.Core.Logic.{◌⊎◌, inl, inr}
use mathlib.Core.Bool.{Bool, true, false, not, true≢false}
use mathlib.Core.List.{List, [], ◌∷◌, ◌++◌, map, map-append, append_assoc, append-nil}
use native.Mathlib.Omega.{arith}
use native.Mathlib.Numerals.{add-one}
use lib.ListN.{length, drop, length-append, length-drop}
use lib.Seq.{drop-append-le}
use lib.Dec.{leb}
use borrow.Author.Tests.{ltb-true, ltb-false, leb-true, le-leb}
use Rattle.codec.specs.Choice.{pick, bit}
use Rattle.codec.specs.Time.{ns}
use Rattle.codec.specs.declared.time.Time.{Time}
use Rattle.codec.proofs.BoolLaws.{and_l, and_r}
use Rattle.history.specs.Account.{Event}
use Rattle.history.specs.Ledger.{Limits, Line, Frame, Closed, Ledger, empty_ledger, Op, is_empty, kept_in, discarded_in, waiting_in, line_for, closes_before, overdue, has_room, close, begin, enter, mirrored, passed, taken, is_out, failed, step_l, run_l, lines_in}
use Rattle.history.specs.Ledger as Rules
use Rattle.history.specs.History.{Says, Closes, stays, closes}
use Rattle.history.proofs.Ground.TestLaws.{and_yes, or3_yes}
use Rattle.history.proofs.Ground.ListLaws.{empty_is, not_empty, all_unit, drop_next, kept_append, discarded_append, lines_append}
use Rattle.history.proofs.Ledger.Moves.{events_in, begin-keeps, took_one, failed_one, left_open, Moves, run_move}

-- no more are taken than kept, and at most Q wait
pub record Sound (c : Limits) (ks : List Closed) (n : ℕ) : Type 0 where
  pub taken : n ≤ length (kept_in ks)
  pub room : length (drop n (kept_in ks)) ≤ c.room

abbrev pub SoundL : Limits → Ledger → Type 0
SoundL c l = Sound c l.closed (length l.sends)

sound_waiting : (c : Limits) (l : Ledger) → SoundL c l → length (waiting_in l) ≤ c.room
unfolding waiting_in
sound_waiting c l p = p.room

-- rule 3: what waits once the frame is closed, and how many wait and were discarded
pub close_waiting : (c : Limits) (l : Ledger) → SoundL c l → waiting_in (close c l) ≡ waiting_in l ++ pick (has_room c l) (l.filling ∷ []) []
unfolding waiting_in close
close_waiting c l p =
    let h : length l.sends ≤ length (kept_in l.closed) = p.taken in
    rw (kept_append, append-nil, drop-append-le)

pub close_waits : (c : Limits) (l : Ledger) → SoundL c l → length (waiting_in (close c l)) ≡ length (waiting_in l) + bit (has_room c l)
close_waits c l p = rw (close_waiting c l p, length-append) (go (has_room c l))
  where
    go : (b : Bool) → length (waiting_in l) + length (pick b (l.filling ∷ []) []) ≡ length (waiting_in l) + bit b
    go true = refl
    go false = refl

pub close_discards : (c : Limits) (l : Ledger) → length (discarded_in (close c l).closed) ≡ length (discarded_in l.closed) + bit (not (has_room c l))
unfolding close
close_discards c l = rw (discarded_append, length-append) (go (has_room c l))
  where
    go : (b : Bool) → length (discarded_in l.closed) + length (pick b [] (l.filling ∷ []) ++ []) ≡ length (discarded_in l.closed) + bit (not b)
    go true = refl
    go false = refl

room_kept : (c : Limits) (l : Ledger) (b : Bool) → has_room c l ≡ b → length (waiting_in l) ≤ c.room → length (waiting_in l) + bit b ≤ c.room
unfolding has_room
room_kept c l true e h = omega (arith, ltb-true)
room_kept c l false e h = omega arith

close_sound : (c : Limits) (l : Ledger) → SoundL c l → SoundL c (close c l)
unfolding close waiting_in
close_sound c l p = record {
  taken = rw kept_append (rw length-append (omega arith));
  room = rw (close_waits c l p) (room_kept c l (has_room c l) refl p.room);
}

-- rule 7: what waits once the oldest is taken
pub took_waiting : (l : Ledger) (f : Frame) (fs : List Frame) → waiting_in l ≡ f ∷ fs → waiting_in (took_one l) ≡ fs
unfolding waiting_in
took_waiting l f fs e = rw (← add-one (length l.sends)) (drop_next (length l.sends) f fs (kept_in l.closed) e)

take_sound : (c : Limits) (f : Frame) (fs : List Frame) (l : Ledger) → waiting_in l ≡ f ∷ fs → SoundL c l → SoundL c (took_one l)
unfolding waiting_in
take_sound c f fs l e p =
    let n = length-drop (length l.sends) (kept_in l.closed) in
    let m = ap length e in
    let d = took_waiting l f fs e in
    record { taken = omega arith; room = rw d (omega arith) }

sound_moves : (c : Limits) → Moves c (λ ev. Unit {0}) (λ l h. SoundL c l)
unfolding enter
sound_moves c = record {
  close = λ l h e p. close_sound c l p;
  begin = λ l h ev x e p. p;
  enter = λ l h ev x r p. p;
  take = λ l h f fs e p. take_sound c f fs l e p;
  fail = λ l h bs e p. rw e at p;
}

-- so it stays, whatever befalls the ledger
run_sound : (c : Limits) (l : Ledger) (ops : List Op) → SoundL c l → SoundL c (run_l c l ops)
run_sound c l ops p = run_move c (λ ev. Unit {0}) (λ l h. SoundL c l) (sound_moves c) l [] ops (all_unit (events_in ops)) p

pub step_sound : (c : Limits) (l : Ledger) (op : Op) → SoundL c l → SoundL c (step_l c l op)
step_sound c l op p = run_sound c l (op ∷ []) p

pub empty_sound : (c : Limits) → SoundL c empty_ledger
unfolding empty_ledger
empty_sound c = record { taken = omega arith; room = omega arith }

-- rule 2 as a test, and as it is said
closes_says : (c : Limits) (l : Ledger) (ev : Event) → closes_before c l ev ≡ true → Says c l (Rules.event ev)
unfolding closes_before
closes_says c l ev e =
    let y = and_yes (is_empty l.filling.lines) _ e in
    (not_empty l.filling.lines y.0, or3_yes _ _ _ (ltb-true _ _) (ltb-true _ _) (ltb-true _ _) y.1)

says_closes : (c : Limits) (l : Ledger) (ev : Event) → closes_before c l ev ≡ false → Says c l (Rules.event ev) → ⊥
says_closes c l ev e y = go (is_empty l.filling.lines) refl
  where
    three : {x y z u v w : ℕ} → (y ≤ x) × (z ≤ u) × (w ≤ v) → (x < y) ⊎ ((u < z) ⊎ (v < w)) → ⊥
    three r (inl k) = omega arith
    three r (inr (inl k)) = omega arith
    three r (inr (inr k)) = omega arith

    go : (b : Bool) → is_empty l.filling.lines ≡ b → ⊥
    go true q = y.0 (empty_is l.filling.lines q)
    go false q = three (left_open c ev l q e) y.1

-- rule 6 as a test, and as it is said
overdue_says : (c : Limits) (l : Ledger) (t : Time) → overdue c l t ≡ true → Says c l (Rules.deadline t)
unfolding overdue
overdue_says c l t e =
    let y = and_yes (is_empty l.filling.lines) _ e in
    let n : ℕ = ns l.filling.time + c.deadline * 1000000 in (
      not_empty l.filling.lines y.0,
      (leb-true 1 c.deadline (and_l (leb 1 c.deadline) (leb n (ns t)) y.1), leb-true n (ns t) (and_r (leb 1 c.deadline) (leb n (ns t)) y.1)),
    )

says_overdue : (c : Limits) (l : Ledger) (t : Time) → overdue c l t ≡ false → Says c l (Rules.deadline t) → ⊥
unfolding overdue
says_overdue c l t e y = go (is_empty l.filling.lines) refl
  where
    go : (b : Bool) → is_empty l.filling.lines ≡ b → ⊥
    go true q = y.0 (empty_is l.filling.lines q)
    go false q = true≢false (sym (simp (q, le-leb 1 c.deadline y.1.0, le-leb _ _ y.1.1)) ∙ e)

-- a frame is discarded exactly where Q wait
closing : (c : Limits) (l m : Ledger) (op : Op) → SoundL c l → Says c l op → m.closed ≡ (close c l).closed → Closes c l op m
unfolding close has_room
closing c l m op p y e = let w = sound_waiting c l p in closes (has_room c l) e y (λ k. ltb-true _ _ k) (λ k. omega (arith, ltb-false))

event_closes : (c : Limits) (l : Ledger) (ev : Event) (b : Bool) → closes_before c l ev ≡ b → SoundL c l
    → Closes c l (Rules.event ev) (enter ev (begin ev.time (pick b (close c l) l)))
unfolding enter
event_closes c l ev true e p = closing c l _ (Rules.event ev) p (closes_says c l ev e) (begin-keeps ev.time (close c l)).0
event_closes c l ev false e p = stays (begin-keeps ev.time l).0 (says_closes c l ev e)

deadline_closes : (c : Limits) (l : Ledger) (t : Time) (b : Bool) → overdue c l t ≡ b → SoundL c l → Closes c l (Rules.deadline t) (pick b (close c l) l)
deadline_closes c l t true e p = closing c l _ (Rules.deadline t) p (overdue_says c l t e) refl
deadline_closes c l t false e p = stays refl (says_overdue c l t e)

failed-closed : (l : Ledger) (b : Bool) → (pick b (failed_one (drop 1 l.sends) l) l).closed ≡ l.closed
failed-closed l true = refl
failed-closed l false = refl

closes_exactly : (c : Limits) (l : Ledger) (op : Op) → SoundL c l → Closes c l op (step_l c l op)
unfolding mirrored passed taken failed
closes_exactly c l (Rules.event ev) p = event_closes c l ev (closes_before c l ev) refl p
closes_exactly c l (Rules.deadline t) p = deadline_closes c l t (overdue c l t) refl p
closes_exactly c l Rules.take p = stays refl (λ z. z)
closes_exactly c l Rules.fail p = stays (failed-closed l (is_out l.sends)) (λ z. z)

pub closes_at : (c : Limits) (ops before after : List Op) (op : Op) → ops ≡ before ++ (op ∷ after)
    → Closes c (run_l c empty_ledger before) op (step_l c (run_l c empty_ledger before) op)
closes_at c ops before after op e = closes_exactly c (run_l c empty_ledger before) op (run_sound c empty_ledger before (empty_sound c))

-- the lines are the events, in order
items_moves : (c : Limits) → Moves c (λ ev. Unit {0}) (λ l h. map (λ (x : Line). x.event) (lines_in l) ≡ h)
unfolding lines_in close enter line_for
items_moves c = record {
  close = λ l h e p. simp (lines_append, append-nil) p;
  begin = λ l h ev x e p. rw e at p;
  enter = λ l h ev x r p. rw (← p) (simp (map-append, append_assoc));
  take = λ l h f fs e p. p;
  fail = λ l h bs e p. p;
}

pub items_are : (c : Limits) (ops : List Op) → map (λ (x : Line). x.event) (lines_in (run_l c empty_ledger ops)) ≡ events_in ops
items_are c ops =
    run_move c (λ ev. Unit {0}) (λ l h. map (λ (x : Line). x.event) (lines_in l) ≡ h) (items_moves c) empty_ledger [] ops (all_unit (events_in ops))
    (unfold empty_ledger lines_in in refl)
