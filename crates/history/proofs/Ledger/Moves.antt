-- One induction for every property of the ledger: an operation is at most a close, a begin and an enter, or a take, or a failed
-- send.
use Prim.Native.Nat.{ℕ, ◌+◌, ◌%◌, ◌≤◌}
use mathlib.Core.Path.{◌≡◌, refl}
use mathlib.Core.Bool.{Bool, true, false, true≢false}
use mathlib.Core.List.{List, [], ◌∷◌, ◌++◌, append_assoc, append-nil}
use native.Mathlib.Omega.{arith}
use lib.ListN.{length}
use lib.Dec.{ltb}
use borrow.Author.Tests.{ltb-false}
use Rattle.codec.specs.Choice.{pick}
use Rattle.codec.specs.Time.{ns}
use Rattle.codec.specs.Ident.{ident_bytes}
use Rattle.codec.specs.Item.{state_bytes, load_length}
use Rattle.codec.specs.declared.time.Time.{Time}
use Rattle.std.specs.Prelude.{Some, None}
use Rattle.history.specs.Account.{Event}
use Rattle.history.specs.Ledger.{Limits, Line, Frame, Ledger, Op, state_in, item_in, size_in, total, is_empty, waiting_in, offset_in, line_for, closes_before, overdue, close, begin, enter, mirrored, passed, taken, is_out, failed, step_l, run_l}
use Rattle.history.specs.Ledger as Rules
use Rattle.history.specs.History.{All}
use Rattle.history.proofs.Ground.Machine.{Fit, FitOp}
use Rattle.history.proofs.Ground.TestLaws.{and_yes, or3_no}
use Rattle.history.proofs.Ground.ListLaws.{empty_is}

-- the events of a list of operations
abbrev pub events_in : List Op → List Event
events_in [] = []
events_in (Rules.event ev ∷ ops) = ev ∷ events_in ops
events_in (Rules.deadline t ∷ ops) = events_in ops
events_in (Rules.take ∷ ops) = events_in ops
events_in (Rules.fail ∷ ops) = events_in ops

pub fit_events : (c : Limits) (ops : List Op) → All (FitOp c) ops → All (Fit c) (events_in ops)
fit_events c [] p = tt
fit_events c (Rules.event ev ∷ ops) p = (p.0, fit_events c ops p.1)
fit_events c (Rules.deadline t ∷ ops) p = fit_events c ops p.1
fit_events c (Rules.take ∷ ops) p = fit_events c ops p.1
fit_events c (Rules.fail ∷ ops) p = fit_events c ops p.1

pub run_appended : (c : Limits) (l : Ledger) (a b : List Op) → run_l c l (a ++ b) ≡ run_l c (run_l c l a) b
run_appended c l [] b = refl
run_appended c l (op ∷ a) b = run_appended c (step_l c l op) a b

-- an empty frame gets its header, and one with a line stays
abbrev pub opened : Time → Ledger → Ledger
opened t l = record {
  closed = l.closed;
  filling = record { sequence = l.next; time = t; lines = [] };
  next = (l.next + 1) % 256;
  lost = l.lost;
  sends = l.sends;
  notes = l.notes;
}

pub begin_opens : (t : Time) (l : Ledger) → l.filling.lines ≡ [] → begin t l ≡ opened t l
unfolding begin
begin_opens t l e = simp e

pub begin-stays : (t : Time) (l : Ledger) → is_empty l.filling.lines ≡ false → begin t l ≡ l
unfolding begin
begin-stays t l e = simp e

pub begin-keeps : (t : Time) (l : Ledger) → ((begin t l).closed ≡ l.closed) × ((begin t l).sends ≡ l.sends)
unfolding begin
begin-keeps t l = go (is_empty l.filling.lines)
  where
    go : (b : Bool) → ((pick b (opened t l) l).closed ≡ l.closed) × ((pick b (opened t l) l).sends ≡ l.sends)
    go true = (refl, refl)
    go false = (refl, refl)

-- an item is never longer than with its state
pub size_most : (x : Line) → size_in x ≤ 5 + length (ident_bytes x.event.ident) + load_length x.event.carries (length x.event.payload)
unfolding size_in item_in state_in
size_most x = let m = state_most x.lost x.event.due x.event.state in omega arith
  where
    state_most : (a b : Bool) (n : ℕ) → length (state_bytes (pick a (Some (n + 128)) (pick b (Some n) None))) ≤ 1
    state_most true b n = omega arith
    state_most false true n = omega arith
    state_most false false n = omega arith

-- only a frame with a line closes
pub closes_filled : (c : Limits) (l : Ledger) (ev : Event) → closes_before c l ev ≡ true → is_empty l.filling.lines ≡ false
unfolding closes_before
closes_filled c l ev e = (and_yes (is_empty l.filling.lines) _ e).0

pub overdue_filled : (c : Limits) (l : Ledger) (t : Time) → overdue c l t ≡ true → is_empty l.filling.lines ≡ false
unfolding overdue
overdue_filled c l t e = (and_yes (is_empty l.filling.lines) _ e).0

-- a ledger by its fields
ledger_path : {l m : Ledger} → l.closed ≡ m.closed → l.filling ≡ m.filling → l.next ≡ m.next → l.lost ≡ m.lost → l.sends ≡ m.sends
    → l.notes ≡ m.notes → l ≡ m
ledger_path a b d e f g = λ i. record { closed = a i; filling = b i; next = d i; lost = e i; sends = f i; notes = g i }

-- a take: one more is taken where one waits, else nothing
abbrev pub took_one : Ledger → Ledger
took_one l = record { closed = l.closed; filling = l.filling; next = l.next; lost = l.lost; sends = false ∷ l.sends; notes = l.notes }

pub taken_none : (l : Ledger) → waiting_in l ≡ [] → taken l ≡ l
unfolding taken
taken_none l e = ledger_path refl refl refl refl (simp e) refl

pub taken_one : (l : Ledger) (f : Frame) (fs : List Frame) → waiting_in l ≡ f ∷ fs → taken l ≡ took_one l
unfolding taken
taken_one l f fs e = ledger_path refl refl refl refl (simp e) refl

-- a failed send: the latest mark is changed where a frame is out, else nothing
abbrev pub failed_one : List Bool → Ledger → Ledger
failed_one bs l = record {
  closed = l.closed;
  filling = l.filling;
  next = l.next;
  lost = true;
  sends = true ∷ bs;
  notes = l.notes ++ (Rules.unsent ∷ []);
}

-- the marks where no frame is out, and where one is
pub data Out (marks : List Bool) : Type 0 where
  none_out : is_out marks ≡ false → Out marks
  one_out : (bs : List Bool) → marks ≡ false ∷ bs → Out marks

pub out_or_not : (marks : List Bool) → Out marks
out_or_not [] = none_out refl
out_or_not (true ∷ bs) = none_out refl
out_or_not (false ∷ bs) = one_out bs refl

pub failed-none : (l : Ledger) → is_out l.sends ≡ false → failed l ≡ l
unfolding failed
failed-none l e = simp e

pub failed-one : (l : Ledger) (bs : List Bool) → l.sends ≡ false ∷ bs → failed l ≡ failed_one bs l
unfolding failed
failed-one l bs e = rw e

-- what the rules' tests leave true where an event is entered
pub record Ready (c : Limits) (ev : Event) (l : Ledger) : Type 0 where
  pub later : ns l.filling.time ≤ ns ev.time
  pub near : offset_in l.filling ev.time ≤ 65535
  pub room : Fit c ev → 14 + total l.filling.lines + size_in (line_for l ev) ≤ c.size

-- in a frame just opened
opened_ready : (c : Limits) (ev : Event) (l : Ledger) → Ready c ev (opened ev.time l)
unfolding offset_in line_for
opened_ready c ev l = record {
  later = omega arith;
  near = omega arith;
  room = λ f. omega (arith, f.size, size_most (line_for (opened ev.time l) ev));
}

-- in a frame that rule 2 leaves open
pub left_open : (c : Limits) (ev : Event) (l : Ledger) → is_empty l.filling.lines ≡ false → closes_before c l ev ≡ false
    → (ns l.filling.time ≤ ns ev.time) × (offset_in l.filling ev.time ≤ 65535) × (14 + total l.filling.lines + size_in (line_for l ev) ≤ c.size)
unfolding closes_before
left_open c ev l e q =
    let r = or3_no (ltb (ns ev.time) (ns l.filling.time)) (ltb 65535 (offset_in l.filling ev.time))
    (ltb c.size (14 + total l.filling.lines + size_in (line_for l ev))) (rw e at q) in (
      ltb-false (ns ev.time) (ns l.filling.time) r.0,
      ltb-false 65535 (offset_in l.filling ev.time) r.1,
      ltb-false c.size (14 + total l.filling.lines + size_in (line_for l ev)) r.2,
    )

pub open_ready : (c : Limits) (ev : Event) (l : Ledger) → is_empty l.filling.lines ≡ false → closes_before c l ev ≡ false → Ready c ev l
open_ready c ev l e q = let r = left_open c ev l e q in record { later = r.0; near = r.1; room = λ f. r.2 }

-- P l h: of the ledger l after the events h, where each event is such as E says
pub record Moves (c : Limits) (E : Event → Type 0) (P : Ledger → List Event → Type 0) : Type 0 where
  pub close : (l : Ledger) (h : List Event) → is_empty l.filling.lines ≡ false → P l h → P (close c l) h
  pub begin : (l : Ledger) (h : List Event) (ev : Event) → E ev → l.filling.lines ≡ [] → P l h → P (opened ev.time l) h
  pub enter : (l : Ledger) (h : List Event) (ev : Event) → E ev → Ready c ev l → P l h → P (enter ev l) (h ++ (ev ∷ []))
  pub take : (l : Ledger) (h : List Event) (f : Frame) (fs : List Frame) → waiting_in l ≡ f ∷ fs → P l h → P (took_one l) h
  pub fail : (l : Ledger) (h : List Event) (bs : List Bool) → l.sends ≡ false ∷ bs → P l h → P (failed_one bs l) h

module _ (c : Limits) (E : Event → Type 0) (P : Ledger → List Event → Type 0) (m : Moves c E P) where
  close_move : (b : Bool) (l : Ledger) (h : List Event) → (b ≡ true → is_empty l.filling.lines ≡ false) → P l h → P (pick b (close c l) l) h
  close_move true l h k p = m.close l h (k refl) p
  close_move false l h k p = p

  -- an event that finds the frame empty, or open
  begin_move : (ev : Event) (l : Ledger) (h : List Event) → E ev → (is_empty l.filling.lines ≡ false → Ready c ev l) → P l h
      → P (enter ev (begin ev.time l)) (h ++ (ev ∷ []))
  begin_move ev l h x k p = go (is_empty l.filling.lines) refl
    where
      go : (b : Bool) → is_empty l.filling.lines ≡ b → P (enter ev (begin ev.time l)) (h ++ (ev ∷ []))
      go true e =
          let z = empty_is l.filling.lines e in
          rw (begin_opens ev.time l z) (m.enter (opened ev.time l) h ev x (opened_ready c ev l) (m.begin l h ev x z p))
      go false e = rw (begin-stays ev.time l e) (m.enter l h ev x (k e) p)

  event_move : (ev : Event) (l : Ledger) (h : List Event) (b : Bool) → closes_before c l ev ≡ b → E ev → P l h
      → P (enter ev (begin ev.time (pick b (close c l) l))) (h ++ (ev ∷ []))
  event_move ev l h true q x p =
      begin_move ev (close c l) h x (λ e. absurd (true≢false (unfold close in e))) (m.close l h (closes_filled c l ev q) p)
  event_move ev l h false q x p = begin_move ev l h x (λ e. open_ready c ev l e q) p

  take_move : (fs : List Frame) (l : Ledger) (h : List Event) → waiting_in l ≡ fs → P l h → P (taken l) h
  take_move [] l h e p = rw (taken_none l e) p
  take_move (f ∷ fs) l h e p = rw (taken_one l f fs e) (m.take l h f fs e p)

  fail_move : (l : Ledger) (h : List Event) → P l h → P (failed l) h
  fail_move l h p = go (out_or_not l.sends)
    where
      go : Out l.sends → P (failed l) h
      go (none_out e) = rw (failed-none l e) p
      go (one_out bs e) = rw (failed-one l bs e) (m.fail l h bs e p)

  pub run_move : (l : Ledger) (h : List Event) (ops : List Op) → All E (events_in ops) → P l h → P (run_l c l ops) (h ++ events_in ops)
  unfolding mirrored passed
  run_move l h [] x p = rw append-nil p
  run_move l h (Rules.event ev ∷ ops) x p =
      rw (← append_assoc h (ev ∷ []) (events_in ops)) (run_move (mirrored c ev l) (h ++ (ev ∷ [])) ops x.1 (event_move ev l h (closes_before c l ev) refl x.0 p))
  run_move l h (Rules.deadline t ∷ ops) x p = run_move (passed c t l) h ops x (close_move (overdue c l t) l h (overdue_filled c l t) p)
  run_move l h (Rules.take ∷ ops) x p = run_move (taken l) h ops x (take_move (waiting_in l) l h refl p)
  run_move l h (Rules.fail ∷ ops) x p = run_move (failed l) h ops x (fail_move l h p)
