-- What a report or a tick tells of the clock is how far the ledger's frame being filled is ahead, as the call found it.
use Prim.Native.Nat.{ℕ}
use mathlib.Core.Path.{◌≡◌, refl, ap}
use mathlib.Core.List.{List, [], ◌∷◌, ◌++◌}
use lib.Dec.{eqb}
use Rattle.codec.specs.Choice.{pick}
use Rattle.codec.specs.declared.time.Time.{Time}
use Rattle.codec.specs.declared.time.Nanos.{Nanos}
use Rattle.codec.proofs.Opened.{never}
use Rattle.framer.specs.Meter.{back_for}
use Rattle.bus.specs.Report.{can_report, lin_report, flexray_report, frame_report, conflict_report, error_report}
use Rattle.bus.specs.declared.report.Report.{Report}
use native.Mathlib.Omega.{arith}
use borrow.Author.Tests.{ne_eqb}
use Rattle.std.specs.Prelude.{Result, Ok, Err}
use Rattle.framer.specs.Cause.{number_of, answer_of}
use Rattle.framer.specs.declared.cause.Cause.{Cause}
use Rattle.framer.proofs.FramerLaws.{caused}
use Rattle.mirror.specs.Engine.{answered}
use Rattle.mirror.specs.Report.{report_of}
use Rattle.mirror.specs.Tick.{tick_of}
use Rattle.mirror.specs.Call.{Call, beside, step_of, run_of}
use Rattle.mirror.specs.declared.engine.Engine.{Engine}
use Rattle.history.specs.Ledger.{Limits, Ledger}
use Rattle.history.specs.Deed.{Deed, deeds_of, done}
use Rattle.history.specs.Clock.{behind, tells_by, says_by}
use Rattle.history.specs.History.{Plain, All}
use Rattle.history.proofs.Framer.MeterLaws.{back_same}
use Rattle.history.proofs.Framer.SimLaws.{Tied}
use Rattle.history.proofs.Engine.RunLaws.{deed_of}

abbrev one : ℕ → List ℕ
one n = n ∷ []

-- the number stands beside an answer of 0, and nothing beside another
number_is : (e after : Engine) (r : Result Unit Cause) (back : Nanos) (n : ℕ) → back.0 ≡ n
    → beside (λ (b : Nanos). b.0) (answered e r back after).answer ≡ pick (eqb (answer_of (answered e r back after).answer) 0) n 0
number_is e after (Ok u) back n q = q
number_is e after (Err c) back n q = rw (ne_eqb (number_of c) 0 (λ z. let y : ⊥ = omega (arith, caused c) in y))

module _ (c : Limits) (e : Engine) (l : Ledger) (t : Tied c e.framer l) where
  back_is : (x : Time) → (back_for e.framer.meter x).0 ≡ behind l x
  back_is x = rw t.tie.meter (back_same c l x)

  report_tells : (r : Report) (payload : List ℕ) → beside (λ (b : Nanos). b.0) (report_of e r payload).answer ≡ pick (eqb (answer_of (report_of e r payload).answer) 0) (behind l r.time) 0
  unfolding report_of
  report_tells r payload = number_is _ _ _ _ _ (back_is r.time)

  tick_tells : (x : Time) → beside (λ (b : Nanos). b.0) (tick_of e x).answer ≡ pick (eqb (answer_of (tick_of e x).answer) 0) (behind l x) 0
  unfolding tick_of
  tick_tells x = number_is _ _ _ _ _ (back_is x)

  pub tells-by : (x : Call) → says_by (deed_of e x) ≡ tells_by l (deed_of e x)
  unfolding says_by tells_by done can_report lin_report flexray_report error_report
  tells-by (Call.can source x key payload) = ap one (report_tells (can_report source x key) payload)
  tells-by (Call.lin source x pid bits payload) = ap one (report_tells (lin_report source x pid bits) payload)
  tells-by (Call.flexray source x channels slot cycle payload) = ap one (report_tells (frame_report source x channels slot cycle) payload)
  tells-by (Call.conflict source x channels slot cycle) = ap one (report_tells (conflict_report source x channels slot cycle) [])
  tells-by (Call.flexray-error source x channels bits) = ap one (report_tells (error_report source x channels bits) [])
  tells-by (Call.tick x) = ap one (tick_tells x)
  tells-by (Call.setup size room deadline pairs) = refl
  tells-by (Call.switch size room deadline) = refl
  tells-by Call.offline = refl
  tells-by (Call.start source) = refl
  tells-by (Call.stop source) = refl
  tells-by (Call.can-state source online passive busOff counter) = refl
  tells-by (Call.lin-state source online) = refl
  tells-by (Call.flexray-state source online bits) = refl
  tells-by (Call.can-mask source mask code) = refl
  tells-by (Call.can-range source lower upper) = refl
  tells-by (Call.lin-mask source mask code) = refl
  tells-by (Call.lin-range source lower upper) = refl
  tells-by (Call.slots source low high lowCycle highCycle repetition) = refl
  tells-by (Call.remove source number) = refl
  tells-by (Call.take out) = refl
  tells-by Call.failed = refl
  tells-by Call.discards = refl
  tells-by Call.failures = refl

-- a moment among the deeds: the calls before it, and its own
pub record Moment (e : Engine) (before : List Deed) (d : Deed) : Type 0 where
  pub calls : List Call
  pub call : Call
  pub plain : All Plain calls
  pub deeds : before ≡ deeds_of e calls
  pub deed : d ≡ deed_of (run_of e calls) call

pub moment : (e : Engine) (xs : List Call) (before after : List Deed) (d : Deed) → deeds_of e xs ≡ before ++ (d ∷ after) → All Plain xs → Moment e before d
moment e [] [] after d q p = never (cc)
moment e [] (b ∷ before) after d q p = never (cc)
moment e (x ∷ xs) [] after d q p = record { calls = []; call = x; plain = tt; deeds = refl; deed = cc }
moment e (x ∷ xs) (b ∷ before) after d q p =
    let r : deeds_of (step_of e x).engine xs ≡ before ++ (d ∷ after) = cc in
    let z : b ≡ deed_of e x = cc in
    let m = moment (step_of e x).engine xs before after d r p.1 in
    record { calls = x ∷ m.calls; call = m.call; plain = (p.0, m.plain); deeds = λ i. z i ∷ m.deeds i; deed = m.deed }
