-- `failed` is answered 0 exactly where a frame is out in the ledger, so each one that is answered 0 marks a frame.
use Prim.Native.Nat.{ℕ, ◌+◌}
use mathlib.Core.Path.{◌≡◌, refl, sym, ◌∙◌, ap}
use mathlib.Core.Bool.{Bool, true, false, true≢false}
use mathlib.Core.List.{List, [], ◌∷◌, ◌++◌, map}
use native.Mathlib.Omega.{arith}
use lib.Dec.{eqb}
use borrow.Author.Tests.{eqb-true}
use Rattle.codec.specs.Choice.{pick}
use Rattle.codec.specs.declared.time.Time.{Time}
use Rattle.std.specs.Prelude.{Ok}
use Rattle.framer.specs.Cause.{answer_of, guard}
use Rattle.framer.specs.declared.cause.Cause.{Cause}
use Rattle.mirror.specs.Engine.{sound_of, answered, cause_of}
use Rattle.mirror.specs.Failed.{failed_cause, failed_of}
use Rattle.mirror.specs.Call.{Call, step_of}
use Rattle.mirror.specs.declared.engine.Engine.{Engine}
use Rattle.history.specs.Meaning.{Meaning, starts, stops, updates, reports, ticks, takes, fails, switches, drops, nothing, meaning}
use Rattle.history.specs.Account.{Account, Event, events_of}
use Rattle.history.specs.Ledger.{Limits, Ledger, Op, failures_in, is_out, waiting_in, closes_before, overdue, close, enter, mirrored, passed, taken, failed, run_l, is_empty}
use Rattle.history.specs.Ledger as Rules
use Rattle.history.specs.Deed.{deeds_of, done, ops_of, ops_on}
use Rattle.history.specs.Loss.{failed_in, failed_on}
use Rattle.history.specs.History.{Plain, All}
use Rattle.history.proofs.Ground.TestLaws.{wrong}
use Rattle.history.proofs.Ledger.Moves.{run_appended, begin-keeps, Out, none_out, one_out, out_or_not, failed-one}
use Rattle.history.proofs.Framer.SimLaws.{Tied, run_tied, out_is}
use Rattle.history.proofs.Sources.BookLaws.{book_of, Steady}
use Rattle.history.proofs.Engine.EngineLaws.{step_steady}
use Rattle.history.proofs.Engine.RunLaws.{deed_of, ops_by, stepped, ops_more}

-- what it is answered
pub fails_by : (c : Limits) (e : Engine) (l : Ledger) → sound_of e ≡ true → Tied c e.framer l
    → (step_of e Call.failed).said.answer ≡ pick (is_out l.sends) 0 17
unfolding failed_of failed_cause cause_of
fails_by c e l s t = rw s (go e.framer.meter.out _) ∙ ap (λ (b : Bool). pick b 0 17) (out_is c e.framer l t)
  where
    go : (b : Bool) (after : Engine) → answer_of (answered {A = Unit} e (guard {A = Unit} b Cause.NothingOut (Ok tt)) tt after).answer ≡ pick b 0 17
    go true after = refl
    go false after = refl

-- so one that is answered 0 finds a frame out; no other call says that a send failed
module _ (c : Limits) (e : Engine) (l : Ledger) (s : sound_of e ≡ true) (k : Tied c e.framer l) where
  found_out : (step_of e Call.failed).said.answer ≡ 0 → is_out l.sends ≡ true
  found_out z = go (is_out l.sends) refl
    where
      go : (b : Bool) → is_out l.sends ≡ b → is_out l.sends ≡ true
      go true q = q
      go false q = let y : pick {A = ℕ} (is_out l.sends) 0 17 ≡ 0 = sym (fails_by c e l s k) ∙ z in wrong 16 (rw q at y)

  finds_out : (x : Call) → (step_of e x).said.answer ≡ 0 → failed_in (meaning x) ≡ 1 → is_out l.sends ≡ true
  finds_out Call.failed z q = found_out z
  finds_out (Call.setup size room deadline pairs) z q = wrong 0 (sym q)
  finds_out (Call.switch size room deadline) z q = wrong 0 (sym q)
  finds_out Call.offline z q = wrong 0 (sym q)
  finds_out (Call.start source) z q = wrong 0 (sym q)
  finds_out (Call.stop source) z q = wrong 0 (sym q)
  finds_out (Call.can source t key payload) z q = wrong 0 (sym q)
  finds_out (Call.lin source t pid bits payload) z q = wrong 0 (sym q)
  finds_out (Call.flexray source t channels slot cycle payload) z q = wrong 0 (sym q)
  finds_out (Call.conflict source t channels slot cycle) z q = wrong 0 (sym q)
  finds_out (Call.flexray-error source t channels bits) z q = wrong 0 (sym q)
  finds_out (Call.can-state source online passive busOff counter) z q = wrong 0 (sym q)
  finds_out (Call.lin-state source online) z q = wrong 0 (sym q)
  finds_out (Call.flexray-state source online bits) z q = wrong 0 (sym q)
  finds_out (Call.can-mask source mask code) z q = wrong 0 (sym q)
  finds_out (Call.can-range source lower upper) z q = wrong 0 (sym q)
  finds_out (Call.lin-mask source mask code) z q = wrong 0 (sym q)
  finds_out (Call.lin-range source lower upper) z q = wrong 0 (sym q)
  finds_out (Call.slots source low high lowCycle highCycle repetition) z q = wrong 0 (sym q)
  finds_out (Call.remove source number) z q = wrong 0 (sym q)
  finds_out (Call.tick t) z q = wrong 0 (sym q)
  finds_out (Call.take out) z q = wrong 0 (sym q)
  finds_out Call.discards z q = wrong 0 (sym q)
  finds_out Call.failures z q = wrong 0 (sym q)

-- the marks that operations leave
closed_sends : (c : Limits) (b : Bool) (l : Ledger) → (pick b (close c l) l).sends ≡ l.sends
unfolding close
closed_sends c true l = refl
closed_sends c false l = refl

event_sends : (c : Limits) (ev : Event) (l : Ledger) → (mirrored c ev l).sends ≡ l.sends
unfolding mirrored enter
event_sends c ev l = (begin-keeps ev.time (pick (closes_before c l ev) (close c l) l)).1 ∙ closed_sends c (closes_before c l ev) l

deadline_sends : (c : Limits) (t : Time) (l : Ledger) → (passed c t l).sends ≡ l.sends
unfolding passed
deadline_sends c t l = closed_sends c (overdue c l t) l

tick_sends : (c : Limits) (t : Time) (l : Ledger) (evs : List Event) → (run_l c l (map Rules.event evs ++ (Rules.deadline t ∷ []))).sends ≡ l.sends
tick_sends c t l [] = deadline_sends c t l
tick_sends c t l (ev ∷ evs) = tick_sends c t (mirrored c ev l) evs ∙ event_sends c ev l

take_count : (l : Ledger) → failures_in (taken l).sends ≡ failures_in l.sends
unfolding taken
take_count l = go (is_empty (waiting_in l))
  where
    go : (b : Bool) → failures_in (pick b l.sends (false ∷ l.sends)) ≡ failures_in l.sends
    go true = refl
    go false = refl

fail_count : (l : Ledger) → is_out l.sends ≡ true → failures_in (failed l).sends ≡ failures_in l.sends + 1
fail_count l o = go (out_or_not l.sends)
  where
    go : Out l.sends → failures_in (failed l).sends ≡ failures_in l.sends + 1
    go (none_out q) = absurd (true≢false (sym o ∙ q))
    go (one_out bs q) = rw (failed-one l bs q, q) (omega arith)

-- an accepted call marks as many frames as it says
same : {n m : ℕ} → n ≡ m → n ≡ m + 0
same e = omega arith

meant_count : (c : Limits) (l : Ledger) (book : List Account) (m : Meaning) → (failed_in m ≡ 1 → is_out l.sends ≡ true)
    → failures_in (run_l c l (ops_of book m)).sends ≡ failures_in l.sends + failed_in m
unfolding ops_of
meant_count c l book (reports source b t ident carries payload) o = same (ap failures_in (event_sends c _ l))
meant_count c l book (ticks t) o = same (ap failures_in (tick_sends c t l (events_of book (ticks t))))
meant_count c l book takes o = same (take_count l)
meant_count c l book fails o = fail_count l (o refl)
meant_count c l book (starts source) o = same refl
meant_count c l book (stops source) o = same refl
meant_count c l book (updates source byte) o = same refl
meant_count c l book (switches size room deadline) o = same refl
meant_count c l book drops o = same refl
meant_count c l book nothing o = same refl

-- one call, accepted or not
step_count : (c : Limits) (e : Engine) (l : Ledger) (x : Call) → sound_of e ≡ true → Tied c e.framer l
    → failures_in (run_l c l (ops_by (book_of e) (deed_of e x))).sends ≡ failures_in l.sends + pick (done (deed_of e x)) (failed_in (meaning x)) 0
unfolding ops_by done
step_count c e l x s k = go (eqb (step_of e x).said.answer 0) refl
  where
    go : (b : Bool) → eqb (step_of e x).said.answer 0 ≡ b
        → failures_in (run_l c l (pick (eqb (step_of e x).said.answer 0) (ops_of (book_of e) (meaning x)) [])).sends
        ≡ failures_in l.sends + pick (eqb (step_of e x).said.answer 0) (failed_in (meaning x)) 0
    go true q = rw q (meant_count c l (book_of e) (meaning x) (finds_out c e l s k x (eqb-true (step_of e x).said.answer 0 q)))
    go false q = rw q (same refl)

-- any list of calls
pub called_on : (c : Limits) (e : Engine) (l : Ledger) (xs : List Call) → Steady e → All Plain xs → Tied c e.framer l
    → failures_in (run_l c l (ops_on (book_of e) (deeds_of e xs))).sends ≡ failures_in l.sends + failed_on (deeds_of e xs)
called_on c e l [] s p k = same refl
called_on c e l (x ∷ xs) s p k =
    let n = stepped c e l x s p.0 k in
    let u : Engine = (step_of e x).engine in
    let a : List Op = ops_by (book_of e) (deed_of e x) in
    let b : List Op = ops_on (book_of u) (deeds_of u xs) in
    let t : Tied c u.framer (run_l c l a) = rw n.framer (run_tied c e.framer l a k n.fit) in
    let r = called_on c u (run_l c l a) xs (step_steady e x s p.0) p.1 t in
    rw (ops_more c e l x xs n, run_appended c l a b) (r ∙ omega (arith, step_count c e l x s.sound k))
