-- Every accepted call does to the engine's accounts and framer what it comes to in the ledger.
use Prim.Native.Nat.{ℕ, ◌≤◌, ◌<◌}
use mathlib.Core.Path.{◌≡◌, refl, ap, ◌∙◌}
use mathlib.Core.Bool.{Bool, true, false}
use mathlib.Core.List.{List, [], ◌∷◌, ◌++◌, map}
use native.Mathlib.Omega.{arith}
use lib.ListN.{length, length-set}
use lib.Dec.{ltb, eqb}
use borrow.Author.Tests.{eqb-true, eqb-false, ltb-true}
use Rattle.std.specs.Prelude.{Result, Ok}
use Rattle.codec.specs.Number.{Bytes}
use Rattle.codec.specs.Time.{time_ok}
use Rattle.codec.specs.declared.time.Time.{Time}
use Rattle.codec.specs.declared.ident.Ident.{Ident}
use Rattle.framer.specs.Framer.{add, take_of}
use Rattle.framer.specs.declared.framer.Framer.{Framer}
use Rattle.framer.specs.declared.offer.Offer.{Offer}
use Rattle.framer.proofs.FramerLaws.{sounds, passed-guard}
use Rattle.framer.specs.Cause.{answer_of}
use Rattle.framer.specs.declared.cause.Cause.{Cause}
use Rattle.bus.specs.Update.{can_update, lin_update, flexray_update}
use Rattle.bus.specs.Report.{can_report, lin_report, flexray_report, frame_report, conflict_report, error_report}
use Rattle.bus.specs.declared.source.Source.{Source}
use Rattle.bus.specs.declared.update.Update.{Update}
use Rattle.bus.specs.declared.report.Report.{Report}
use Rattle.bus.specs.declared.filter.Addition.{Addition}
use Rattle.bus.proofs.BusLaws.{cause_passed, update_passed, add-passed}
use Rattle.mirror.specs.Engine.{source_cause, index_of, source_at, with_source}
use Rattle.mirror.specs.Source.{start_of, stop_of, update_of, add_of, remove_of}
use Rattle.mirror.specs.Report.{reported, report_of}
use Rattle.mirror.specs.Tick.{ticked, tick_cause, tick_of}
use Rattle.mirror.specs.Take.{taken_of}
use Rattle.mirror.specs.Failed.{failed_cause, failed_of}
use Rattle.mirror.specs.Call.{Call, step_of}
use Rattle.mirror.specs.declared.engine.Engine.{Engine}
use Rattle.mirror.proofs.Kept.{metered, kept}
use Rattle.mirror.proofs.Refused.{refused-keeps}
use Rattle.history.specs.Meaning.{meaning, Bound, none, errors, conflict, aggregated}
use Rattle.history.specs.Account.{Account, account_at, started_account, stopped_account, updated_account, report_event, reported_account, state_events, ticked_account, changed, accounts_of}
use Rattle.history.specs.Ledger.{Limits, Op}
use Rattle.history.specs.Ledger as Rules
use Rattle.history.specs.Deed.{ops_of}
use Rattle.history.specs.History.{Plain, All}
use Rattle.history.proofs.Ground.Machine.{run_w, FitOp}
use Rattle.history.proofs.Ground.ListLaws.{all_append, all_set}
use Rattle.history.proofs.Framer.OutputLaws.{taking}
use Rattle.history.proofs.Sources.SourceLaws.{account_of, HealthyS, Brings, started-account, started_healthy, stopped-account, stopped_healthy, updated-account, updated_healthy, added_account, removed_account, healthy_by, brings_can, brings_lin, brings_flexray}
use Rattle.history.proofs.Sources.ReportLaws.{settled_account, settled_healthy}
use Rattle.history.proofs.Sources.EventLaws.{Means, offer_meant, report_fit, means_can, means_lin, means_frame, means_conflict, means_error}
use Rattle.history.proofs.Sources.BookLaws.{book_of, Steady, accepted, healthy_at, account-at, changed_book, same_book, healthy_book}
use Rattle.history.proofs.Sources.SetupLaws.{setup_empty}
use Rattle.history.proofs.Sources.TickLaws.{states_count, states_length, states_healthy, states_fit, ticked_book, ticked_framer}

-- what an accepted call leaves: the accounts, the framer after the operations, which all fit, and the rest as it was
record Does (e : Engine) (accounts : List Account) (ops : List Op) (after : Engine) : Type 0 where
  book : book_of after ≡ accounts
  framer : after.framer ≡ run_w e.framer ops
  fit : (c : Limits) → e.framer.meter.size ≡ c.size → All (FitOp c) ops
  count : after.count ≡ e.count
  eight : length after.sources ≡ 8
  healthy : All HealthyS after.sources

module _ (e : Engine) (s : Steady e) where
  -- one source changed, and the framer after operations that fit, or as it was
  change_does : (k : ℕ) (x : Source) (w : Framer) (f : Account → Account) (ops : List Op) → k < e.count → account_of x ≡ f (account_of (source_at e k)) → HealthyS x
      → w ≡ run_w e.framer ops → ((c : Limits) → e.framer.meter.size ≡ c.size → All (FitOp c) ops) → Does e (changed (book_of e) k f) ops (with_source e k x w)
  unfolding with_source
  change_does k x w f ops h a p q r = record {
    book = changed_book e s k x w f h a;
    framer = q;
    fit = r;
    count = refl;
    eight = length-set e.sources (index_of k) x ∙ s.eight;
    healthy = all_set HealthyS e.sources (index_of k) x p s.healthy;
  }

  quiet_does : (k : ℕ) (x : Source) (f : Account → Account) → k < e.count → account_of x ≡ f (account_of (source_at e k)) → HealthyS x
      → Does e (changed (book_of e) k f) [] (with_source e k x e.framer)
  quiet_does k x f h a p = change_does k x e.framer f [] h a p refl (λ c q. tt)

  -- starting, stopping, state updates
  there_is : (k : ℕ) (rest : Result Unit Cause) → source_cause e k rest ≡ Ok tt → k < e.count
  unfolding source_cause
  there_is k rest z = ltb-true k e.count (passed-guard (ltb k e.count) Cause.NoSource rest tt z).0

  start_does : (k : ℕ) → answer_of (start_of e k).answer ≡ 0 → Does e (changed (book_of e) k started_account) [] (start_of e k).engine
  unfolding start_of
  start_does k z =
      let h = accepted e _ _ _ z in
      rw h.1 (quiet_does k _ started_account (there_is k (Ok tt) h.0) (started-account (source_at e k)) (started_healthy (source_at e k) (healthy_at e s k)))

  stop_does : (k : ℕ) → answer_of (stop_of e k).answer ≡ 0 → Does e (changed (book_of e) k stopped_account) [] (stop_of e k).engine
  unfolding stop_of
  stop_does k z =
      let h = accepted e _ _ _ z in
      rw h.1 (quiet_does k _ stopped_account (there_is k (Ok tt) h.0) (stopped-account (source_at e k)) (stopped_healthy (source_at e k) (healthy_at e s k)))

  update_does : (byte : ℕ) (u : Update) → (u.good ≡ true → Brings byte u) → answer_of (update_of e u).answer ≡ 0
      → Does e (changed (book_of e) u.source (updated_account byte)) [] (update_of e u).engine
  unfolding update_of
  update_does byte u g z =
      let h = accepted e _ _ _ z in
      let x : Source = source_at e u.source in
      let p = update_passed e.count x u h.0 in
      let b = g p.good in
      rw h.1 (quiet_does u.source _ (updated_account byte) p.source (rw (← b.is) (updated-account x u))
      (updated_healthy byte x u b p.kind (healthy_at e s u.source)))

  -- filters leave the account as it is
  filter_does : (k : ℕ) (x : Source) → k < e.count → account_of x ≡ account_of (source_at e k) → Does e (book_of e) [] (with_source e k x e.framer)
  filter_does k x h a = rw (same_book (book_of e) k) at (quiet_does k x (λ a. a) h a (healthy_by (source_at e k) x a (healthy_at e s k)))

  remove_does : (k number : ℕ) → answer_of (remove_of e k number).answer ≡ 0 → Does e (book_of e) [] (remove_of e k number).engine
  unfolding remove_of
  remove_does k number z =
      let h = accepted e _ _ _ z in
      rw h.1 (filter_does k _ (there_is k _ h.0) (removed_account (source_at e k) number))

  add_does : (a : Addition) → answer_of (add_of e a).answer ≡ 0 → Does e (book_of e) [] (add_of e a).engine
  unfolding add_of
  add_does a z =
      let h = accepted e _ _ _ z in
      let p = add-passed e.count (source_at e a.source) a h.0 in
      rw h.1 (filter_does a.source _ p.source (added_account (source_at e a.source) a.filter))

  -- a report gives one event, which its checks make fit
  report_does : (b : Bound) (id : Ident) (r : Report) (payload : List ℕ) → Bytes payload → (r.ranged ≡ true → Means b id r (length payload))
      → answer_of (report_of e r payload).answer ≡ 0
      → Does e (changed (book_of e) r.source (reported_account b))
      (Rules.event (report_event b (account_at (book_of e) r.source) r.time id r.carries payload) ∷ []) (report_of e r payload).engine
  unfolding report_of reported report_event
  report_does b id r payload bytes g z =
      let h = accepted e _ _ _ z in
      let x : Source = source_at e r.source in
      let p = cause_passed e.count e.framer.meter.size x r (length payload) h.0 in
      let m = g p.ranged in
      let k = healthy_at e s r.source in
      rw (h.1, account-at e s r.source p.source) (change_does r.source _ _ (reported_account b) _ p.source
      (settled_account b x r m.bind k) (settled_healthy b x r m.bind k)
      (ap (λ (o : Offer). add e.framer r.time o payload) (offer_meant b id x r payload m k))
      (λ c q. (report_fit b id x r payload m k c e.count e.framer.meter.size q p bytes, tt)))

  -- a tick gives the state items called for, and then looks at the deadline
  tick_does : (t : Time) → answer_of (tick_of e t).answer ≡ 0
      → Does e (map ticked_account (book_of e)) (map Rules.event (state_events t (book_of e)) ++ (Rules.deadline t ∷ [])) (tick_of e t).engine
  unfolding tick_of tick_cause ticked
  tick_does t z =
      let h = accepted e _ _ _ z in
      let least : 32 ≤ e.framer.meter.size = (sounds e.framer.meter (metered e s.sound)).size_least in
      let on-time = (passed-guard (time_ok t) Cause.BadTime (Ok tt) tt h.0).0 in
      rw h.1 (record {
        book = ticked_book e s t;
        framer = ticked_framer e s t;
        fit = λ c q. all_append (FitOp c) (map Rules.event (state_events t (book_of e))) (Rules.deadline t ∷ [])
            (states_fit t c (book_of e) (healthy_book e s) on-time (omega arith)) (tt, tt);
        count = states_count t e.count 0 e;
        eight = states_length t e.count 0 e ∙ s.eight;
        healthy = states_healthy t e.count 0 e s.healthy;
      })

  -- a take, a failed send and the questions for the counts leave the accounts as they are
  take_does : (n : ℕ) → answer_of (taken_of e n).answer ≡ 0 → Does e (book_of e) (Rules.take ∷ []) (taken_of e n).engine
  unfolding taken_of book_of
  take_does n z =
      let y : answer_of (take_of e.framer n).answer ≡ 0 = rw s.sound at z in
      rw s.sound (record {
        book = refl;
        framer = (taking e.framer n y).framer;
        fit = λ c q. (tt, tt);
        count = refl;
        eight = s.eight;
        healthy = s.healthy;
      })

  -- a failed send
  fail_does : answer_of (failed_of e).answer ≡ 0 → Does e (book_of e) (Rules.fail ∷ []) (failed_of e).engine
  unfolding failed_of failed_cause book_of
  fail_does z =
      let h = accepted e _ _ _ z in
      rw h.1 (record {
        book = refl;
        framer = refl;
        fit = λ c q. (tt, tt);
        count = refl;
        eight = s.eight;
        healthy = s.healthy;
      })

  none_does : Does e (book_of e) [] e
  none_does = record { book = refl; framer = refl; fit = λ c q. tt; count = refl; eight = s.eight; healthy = s.healthy }

-- every accepted call: setup is accepted once only, and switch and offline are no plain calls
does : (e : Engine) (x : Call) → Steady e → Plain x → (step_of e x).said.answer ≡ 0
    → Does e (accounts_of (book_of e) (meaning x)) (ops_of (book_of e) (meaning x)) (step_of e x).engine
unfolding ops_of can_report lin_report flexray_report error_report can_update lin_update flexray_update
does e (Call.setup f room deadline pairs) s p z =
    let h = setup_empty e f room deadline pairs z in
    let y : ⊥ = omega (arith, s.some) in
    absurd y
does e (Call.switch f room deadline) s p z = absurd p
does e Call.offline s p z = absurd p
does e (Call.start k) s p z = start_does e s k z
does e (Call.stop k) s p z = stop_does e s k z
does e (Call.can k t key payload) s p z =
    report_does e s none (Ident.Can key) (can_report k t key) payload p.1 (means_can k t key (length payload) p.0) z
does e (Call.lin k t pid bits payload) s p z =
    report_does e s (errors bits) (Ident.Lin pid) (lin_report k t pid bits) payload p.1 (means_lin k t pid bits (length payload)) z
does e (Call.flexray k t channels slot cycle payload) s p z =
    report_does e s none (Ident.FlexRay channels slot cycle) (frame_report k t channels slot cycle) payload p.1 (means_frame k t channels slot cycle (length payload)) z
does e (Call.conflict k t channels slot cycle) s p z =
    report_does e s conflict (Ident.FlexRay channels slot cycle) (conflict_report k t channels slot cycle) [] tt (means_conflict k t channels slot cycle) z
does e (Call.flexray-error k t channels bits) s p z =
    report_does e s (aggregated bits) (Ident.FlexRayError channels) (error_report k t channels bits) [] tt (means_error k t channels bits) z
does e (Call.can-state k online passive busOff counter) s p z =
    update_does e s _ (can_update k online passive busOff counter) (λ g. brings_can k online passive busOff counter) z
does e (Call.lin-state k online) s p z = update_does e s _ (lin_update k online) (λ g. brings_lin k online) z
does e (Call.flexray-state k online bits) s p z = update_does e s _ (flexray_update k online bits) (brings_flexray k online bits) z
does e (Call.can-mask k mask code) s p z = add_does e s _ z
does e (Call.can-range k lower upper) s p z = add_does e s _ z
does e (Call.lin-mask k mask code) s p z = add_does e s _ z
does e (Call.lin-range k lower upper) s p z = add_does e s _ z
does e (Call.slots k low high lowCycle highCycle repetition) s p z = add_does e s _ z
does e (Call.remove k number) s p z = remove_does e s k number z
does e (Call.tick t) s p z = tick_does e s t z
does e (Call.take out) s p z = take_does e s (length out) z
does e Call.failed s p z = fail_does e s z
does e Call.discards s p z = none_does e s
does e Call.failures s p z = none_does e s

-- the parts of it, and that a refused call keeps what holds
module _ (e : Engine) (x : Call) (s : Steady e) (p : Plain x) where
  pub step_book : (step_of e x).said.answer ≡ 0 → book_of (step_of e x).engine ≡ accounts_of (book_of e) (meaning x)
  step_book z = (does e x s p z).book

  pub step_framer : (step_of e x).said.answer ≡ 0 → (step_of e x).engine.framer ≡ run_w e.framer (ops_of (book_of e) (meaning x))
  step_framer z = (does e x s p z).framer

  pub step_fit : (c : Limits) → e.framer.meter.size ≡ c.size → (step_of e x).said.answer ≡ 0 → All (FitOp c) (ops_of (book_of e) (meaning x))
  step_fit c q z = (does e x s p z).fit c q

  pub step_steady : Steady (step_of e x).engine
  step_steady = go (eqb (step_of e x).said.answer 0) refl
    where
      go : (b : Bool) → eqb (step_of e x).said.answer 0 ≡ b → Steady (step_of e x).engine
      go false q = rw (refused-keeps e x (eqb-false _ 0 q)).engine s
      go true q =
          let d = does e x s p (eqb-true _ 0 q) in
          record {
            sound = kept e x s.sound;
            some = rw d.count s.some;
            eight = d.eight;
            healthy = d.healthy;
          }
