-- The framer's numbers are those of the ledger, the rules' tests give the same answers, and each step changes both alike.
use Prim.Native.Nat.{ℕ, suc, ◌+◌, ◌-◌, ◌/◌, ◌%◌, ◌≤◌, ◌<◌, min}
use mathlib.Core.Path.{◌≡◌, refl, sym, ◌∙◌, ap}
use mathlib.Core.Bool.{Bool, true, false, not, ◌&&◌, ◌||◌}
use mathlib.Core.List.{List, [], ◌∷◌, ◌++◌}
use native.Mathlib.Omega.{arith}
use lib.ListN.{length, drop}
use lib.Dec.{ltb, leb, eqb}
use borrow.Author.Tests.{ne_eqb, le-ltb, le-leb}
use Rattle.codec.specs.Choice.{pick}
use Rattle.codec.specs.Time.{ns, elapsed, ticks_of, overdue_of}
use Rattle.codec.specs.Item.{item_length}
use Rattle.codec.specs.declared.time.Time.{Time}
use Rattle.codec.specs.declared.time.Ticks.{Ticks}
use Rattle.codec.specs.declared.time.Nanos.{Nanos}
use Rattle.codec.specs.declared.time.Elapsed.TheVariants as Elapsed
use Rattle.codec.proofs.BoolLaws.{or_false, or_true}
use Rattle.framer.specs.Meter.{is_within, ticks_in, back_in, state_shown, item_of, offset_for, back_for, closes_for, counted, closed_meter, placed_meter, taken_meter, failed_meter}
use Rattle.framer.specs.Framer.{item_size, filled_meter}
use Rattle.framer.specs.declared.meter.Meter.{Meter}
use Rattle.framer.proofs.FramerLaws.{back_by, fail_none, fail_out}
use Rattle.history.specs.Account.{Event}
use Rattle.history.specs.Ledger.{Limits, Line, Frame, Ledger, state_in, item_in, size_in, total, is_empty, kept_in, discard_count, waiting_in, failures_in, failure_count, is_out, offset_in, line_for, closes_before, has_room, overdue, close, enter, taken}
use Rattle.history.specs.Clock.{behind}
use Rattle.history.proofs.Ground.Machine.{offer_in}
use Rattle.history.proofs.Ground.BitLaws.{raise_lost}
use Rattle.history.proofs.Ground.TestLaws.{not-leb}
use Rattle.history.proofs.Ground.ListLaws.{snoc_filled}
use Rattle.history.proofs.Ledger.Moves.{opened, taken_none, taken_one, took_one, failed_one}
use Rattle.history.proofs.Ledger.LedgerLaws.{SoundL, close_waits, close_discards, took_waiting}
use Rattle.history.proofs.Ledger.FrameLaws.{total_more}

-- how far the frame being filled is written
unfoldable pub filled_in : List Line → ℕ
filled_in xs = pick (is_empty xs) 0 (14 + total xs)

-- the framer's numbers where the ledger is l
unfoldable pub meter_of : Limits → Ledger → Meter
meter_of c l = record {
  size = c.size;
  room = c.room;
  deadline = record { 0 = c.deadline };
  filled = filled_in l.filling.lines;
  time = l.filling.time;
  sequence = l.next;
  lost = l.lost;
  discards = discard_count l;
  out = is_out l.sends;
  failures = failure_count l;
  first = length l.sends % 8;
  waiting = length (waiting_in l);
}

-- a meter by its fields
meter_path : {m n : Meter} → m.size ≡ n.size → m.room ≡ n.room → m.deadline ≡ n.deadline → m.filled ≡ n.filled → m.time ≡ n.time
    → m.sequence ≡ n.sequence → m.lost ≡ n.lost → m.discards ≡ n.discards → m.out ≡ n.out → m.failures ≡ n.failures → m.first ≡ n.first
    → m.waiting ≡ n.waiting → m ≡ n
meter_path a b d f g h i j u v k o = λ x. record {
  size = a x;
  room = b x;
  deadline = d x;
  filled = f x;
  time = g x;
  sequence = h x;
  lost = i x;
  discards = j x;
  out = u x;
  failures = v x;
  first = k x;
  waiting = o x;
}

-- the item of a line is the one that the framer makes
pub item_same : (lost : Bool) (k : ℕ) (ev : Event) → ev.state < 128
    → item_of lost (record { 0 = k }) (offer_in ev) ≡ item_in (record { event = ev; offset = k; lost = lost })
unfolding item_of item_in offer_in state_shown state_in
item_same true k ev h = rw (raise_lost ev.state h)
item_same false k ev h = refl

-- and as long, wherever it stands
size_same : (l : Ledger) (ev : Event) (k : Ticks) → ev.state < 128
    → item_length (item_of l.lost k (offer_in ev)) (length ev.payload) ≡ size_in (line_for l ev)
unfolding size_in line_for item_in state_in
size_same l ev k h = rw (item_same l.lost k.0 ev h)

-- 0 says that the frame has no line
pub filled_zero : (xs : List Line) → eqb (filled_in xs) 0 ≡ is_empty xs
unfolding filled_in
filled_zero [] = refl
filled_zero (x ∷ xs) = ne_eqb (14 + total (x ∷ xs)) 0 (λ e. let z : ⊥ = omega arith in z)

pub filled_open : (xs : List Line) → is_empty xs ≡ false → filled_in xs ≡ 14 + total xs
unfolding filled_in
filled_open xs e = rw e

-- rule 2's two tests of time are the measure's answers
not_within : (h t : ℕ) → not (is_within (elapsed h t)) ≡ (ltb t h || ltb 65535 ((t - h) / 10000))
unfolding elapsed ticks_of
not_within h t = go (ltb t h) (leb ((t - h) / 10000) 65535) refl refl
  where
    go : (a b : Bool) → ltb t h ≡ a → leb ((t - h) / 10000) 65535 ≡ b → not (is_within (elapsed h t)) ≡ (ltb t h || ltb 65535 ((t - h) / 10000))
    go true b e g = rw e
    go false b e g = rw (e, ← not-leb ((t - h) / 10000) 65535, g) (two b)
      where
        two : (b : Bool) → not (is_within (pick b (Elapsed.Ticks (record { 0 = (t - h) / 10000 })) Elapsed.TooFar)) ≡ not b
        two true = refl
        two false = refl

-- rule 2
same_test : (b x : Bool) (size f g n m : ℕ) → (b ≡ false → f ≡ g) → n ≡ m → (not b && (x || ltb size (f + n))) ≡ (not b && (x || ltb size (g + m)))
same_test true x size f g n m e h = refl
same_test false x size f g n m e h = rw (e refl, h)

pub closes_same : (c : Limits) (l : Ledger) (ev : Event) → ev.state < 128
    → closes_for (meter_of c l) ev.time (offer_in ev) (length ev.payload) ≡ closes_before c l ev
unfolding closes_for closes_before meter_of offset_in
closes_same c l ev h =
    rw (filled_zero l.filling.lines, not_within (ns l.filling.time) (ns ev.time))
    (same_test (is_empty l.filling.lines) (ltb (ns ev.time) (ns l.filling.time) || ltb 65535 ((ns ev.time - ns l.filling.time) / 10000)) c.size
    (filled_in l.filling.lines) (14 + total l.filling.lines) (item_length (item_of l.lost (record { 0 = 0 }) (offer_in ev)) (length ev.payload)) (size_in (line_for l ev))
    (filled_open l.filling.lines) (size_same l ev (record { 0 = 0 }) h))

-- rule 6
pub overdue_same : (c : Limits) (l : Ledger) (x : Time)
    → not (eqb (meter_of c l).filled 0) && overdue_of (ns (meter_of c l).time) (ns x) (meter_of c l).deadline.0 ≡ overdue c l x
unfolding meter_of overdue overdue_of
overdue_same c l x = rw (filled_zero l.filling.lines)

-- the ticks since the header time
pub ticks_same : (h t : ℕ) → h ≤ t → (t - h) / 10000 ≤ 65535 → ticks_in (elapsed h t) ≡ record { 0 = (t - h) / 10000 }
unfolding elapsed ticks_of
ticks_same h t a b = rw (le-ltb t h a, le-leb ((t - h) / 10000) 65535 b)

-- rule 3
pub close_meter : (c : Limits) (l : Ledger) → SoundL c l → closed_meter (meter_of c l) ≡ meter_of c (close c l)
unfolding closed_meter meter_of counted close filled_in has_room discard_count failure_count
close_meter c l s = go (has_room c l) refl
  where
    go : (b : Bool) → has_room c l ≡ b → closed_meter (meter_of c l) ≡ meter_of c (close c l)
    go true e =
        let d = rw e at (close_discards c l) in
        let w = rw e at (close_waits c l s) in
        rw e (meter_path refl refl refl refl refl refl (sym (or_false l.lost)) (omega arith) refl refl refl (omega arith))
    go false e =
        let d = rw e at (close_discards c l) in
        let w = rw e at (close_waits c l s) in
        rw e (meter_path refl refl refl refl refl refl (sym (or_true l.lost)) (omega arith) refl refl refl (omega arith))

pub filled_more : (xs : List Line) (x : Line) → filled_in (xs ++ (x ∷ [])) ≡ 14 + total xs + size_in x
filled_more xs x = filled_open (xs ++ (x ∷ [])) (snoc_filled xs x) ∙ omega (arith, total_more xs x)

-- the first item takes what it would take anywhere
one_filled : (t : Time) (l : Ledger) (ev : Event) {n : ℕ} → n ≡ size_in (line_for l ev) → 14 + n ≡ filled_in (line_for (opened t l) ev ∷ [])
unfolding filled_in line_for size_in item_in state_in
one_filled t l ev e = omega arith

-- rule 1: an item in a frame just opened, and in one that stays open
pub begin_meter : (c : Limits) (l : Ledger) (ev : Event) → ev.state < 128 → l.filling.lines ≡ []
    → filled_meter (meter_of c l) ev.time (offer_in ev) (length ev.payload) ≡ meter_of c (enter ev (opened ev.time l))
unfolding filled_meter item_size placed_meter meter_of enter waiting_in discard_count failure_count
begin_meter c l ev h e =
    let z : eqb (filled_in l.filling.lines) 0 ≡ true = filled_zero l.filling.lines ∙ rw e in
    let n = size_same l ev (offset_for (meter_of c l) ev.time) h in
    rw z (meter_path refl refl refl (one_filled ev.time l ev (omega arith)) refl refl refl refl refl refl refl refl)

pub enter_meter : (c : Limits) (l : Ledger) (ev : Event) → ev.state < 128 → is_empty l.filling.lines ≡ false
    → filled_meter (meter_of c l) ev.time (offer_in ev) (length ev.payload) ≡ meter_of c (enter ev l)
unfolding filled_meter item_size placed_meter meter_of enter waiting_in discard_count failure_count
enter_meter c l ev h e =
    let z : eqb (filled_in l.filling.lines) 0 ≡ false = filled_zero l.filling.lines ∙ e in
    let n = size_same l ev (offset_for (meter_of c l) ev.time) h in
    let f = filled_open l.filling.lines e in
    rw z (meter_path refl refl refl (sym (filled_more l.filling.lines (line_for l ev) ∙ omega arith)) refl refl refl refl refl refl refl refl)

-- how far a clock is behind
pub back_same : (c : Limits) (l : Ledger) (t : Time) → (back_for (meter_of c l) t).0 ≡ behind l t
unfolding back_for meter_of behind
back_same c l t = rw (filled_zero l.filling.lines) (go (is_empty l.filling.lines))
  where
    go : (b : Bool) → (pick {A = Nanos} b (record { 0 = 0 }) (back_in (elapsed (ns l.filling.time) (ns t)))).0
        ≡ pick b 0 (min (ns l.filling.time - ns t) 4294967295)
    go true = refl
    go false = back_by (ns l.filling.time) (ns t)

-- rule 7
pub take_meter : (c : Limits) (l : Ledger) (fs : List Frame) → waiting_in l ≡ fs → taken_meter (meter_of c l) ≡ meter_of c (taken l)
unfolding taken_meter meter_of discard_count failure_count
take_meter c l [] e = rw (taken_none l e, e)
take_meter c l (f ∷ fs) e =
    let n : length (waiting_in l) ≡ suc (length fs) = ap length e in
    let z : eqb (length (waiting_in l)) 0 ≡ false = ne_eqb (length (waiting_in l)) 0 (λ q. let y : ⊥ = omega arith in y) in
    let d : length (waiting_in (took_one l)) ≡ length fs = ap length (took_waiting l f fs e) in
    rw (taken_one l f fs e, z) (meter_path refl refl refl refl refl refl refl refl refl refl (omega arith) (omega arith))

-- rule 8
pub fail_meter_none : (c : Limits) (l : Ledger) → is_out l.sends ≡ false → failed_meter (meter_of c l) ≡ meter_of c l
unfolding meter_of
fail_meter_none c l e = sym (fail_none (meter_of c l) e)

pub fail_meter : (c : Limits) (l : Ledger) (bs : List Bool) → l.sends ≡ false ∷ bs → failed_meter (meter_of c l) ≡ meter_of c (failed_one bs l)
unfolding meter_of counted failure_count discard_count waiting_in
fail_meter c l bs e =
    let n : length l.sends ≡ suc (length bs) = ap length e in
    let k : failures_in l.sends ≡ failures_in bs = ap failures_in e in
    sym (fail_out (meter_of c l) (counted (failure_count l)) (ap is_out e) refl)
    ∙ meter_path refl refl refl refl refl refl refl refl refl (omega arith) (omega arith) (ap (λ (i : ℕ). length (drop i (kept_in l.closed))) n)
