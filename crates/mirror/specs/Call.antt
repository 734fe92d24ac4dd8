-- The engine's calls as one kind of thing, and what a list of them comes to. Each clause is the contract of one public
-- function; nothing else is said here.
use Rattle.std.specs.Prelude.{ℕ, Bool, List, [], ◌∷◌, length, Result, Ok, Err}
use Rattle.codec.specs.declared.time.Time.{Time}
use Rattle.codec.specs.declared.time.Nanos.{Nanos}
use Rattle.framer.specs.Cause.{answer_of}
use Rattle.framer.specs.declared.cause.Cause.{Cause}
use Rattle.bus.specs.Report.{can_report, lin_report, frame_report, conflict_report, error_report}
use Rattle.bus.specs.Update.{can_update, lin_update, flexray_update}
use Rattle.bus.specs.Filter.{can_mask, can_range, lin_mask, lin_range, slots_of}
use Rattle.mirror.specs.Engine.{discards_of, failures_of}
use Rattle.mirror.specs.Setup.{setup_of, switch_of, offline_of}
use Rattle.mirror.specs.Source.{start_of, stop_of, update_of, add_of, remove_of}
use Rattle.mirror.specs.Report.{report_of}
use Rattle.mirror.specs.Tick.{tick_of}
use Rattle.mirror.specs.Take.{taken_of, output_of}
use Rattle.mirror.specs.Failed.{failed_of}
use Rattle.mirror.specs.declared.engine.Engine.{Engine}
use Rattle.mirror.specs.declared.engine.Outcome.{Outcome}

-- a call with its arguments; a take has the output that is lent
pub data Call : Type 0 where
  setup : ℕ → ℕ → ℕ → List ℕ → Call
  switch : ℕ → ℕ → ℕ → Call
  offline : Call
  start : ℕ → Call
  stop : ℕ → Call
  can : ℕ → Time → ℕ → List ℕ → Call
  lin : ℕ → Time → ℕ → ℕ → List ℕ → Call
  flexray : ℕ → Time → ℕ → ℕ → ℕ → List ℕ → Call
  conflict : ℕ → Time → ℕ → ℕ → ℕ → Call
  flexray-error : ℕ → Time → ℕ → ℕ → Call
  can-state : ℕ → Bool → Bool → Bool → ℕ → Call
  lin-state : ℕ → Bool → Call
  flexray-state : ℕ → Bool → ℕ → Call
  can-mask : ℕ → ℕ → ℕ → Call
  can-range : ℕ → ℕ → ℕ → Call
  lin-mask : ℕ → ℕ → ℕ → Call
  lin-range : ℕ → ℕ → ℕ → Call
  slots : ℕ → ℕ → ℕ → ℕ → ℕ → ℕ → Call
  remove : ℕ → ℕ → Call
  tick : Time → Call
  take : List ℕ → Call
  failed : Call
  discards : Call
  failures : Call

-- what a call says: the answer's number, the number beside it (a filter's, a frame's length, a count, the nanoseconds that the
-- clock was behind), and the output after it
pub record Said : Type 0 where
  pub answer : ℕ
  pub number : ℕ
  pub output : List ℕ

pub record Step : Type 0 where
  pub engine : Engine
  pub said : Said

-- the number beside an answer, 0 beside a refusal
abbrev pub beside : {A : Type 0} → (A → ℕ) → Result A Cause → ℕ
beside number (Ok x) = number x
beside number (Err c) = 0

abbrev said : {A : Type 0} → (A → ℕ) → Result A Cause → List ℕ → Said
said number r out = record { answer = answer_of r; number = beside number r; output = out }

abbrev plain : Outcome Unit → Step
plain o = record { engine = o.engine; said = said (λ u. 0) o.answer [] }

abbrev numbered : Outcome ℕ → Step
numbered o = record { engine = o.engine; said = said (λ n. n) o.answer [] }

abbrev clocked : Outcome Nanos → Step
clocked o = record { engine = o.engine; said = said (λ (b : Nanos). b.0) o.answer [] }

abbrev asked : Engine → Result ℕ Cause → Step
asked e r = record { engine = e; said = said (λ n. n) r [] }

abbrev pub step_of : Engine → Call → Step
step_of e (setup size room deadline pairs) = plain (setup_of e size room deadline pairs)
step_of e (switch size room deadline) = plain (switch_of e size room deadline)
step_of e offline = plain (offline_of e)
step_of e (start source) = plain (start_of e source)
step_of e (stop source) = plain (stop_of e source)
step_of e (can source t key payload) = clocked (report_of e (can_report source t key) payload)
step_of e (lin source t pid errors payload) = clocked (report_of e (lin_report source t pid errors) payload)
step_of e (flexray source t channels slot cycle payload) = clocked (report_of e (frame_report source t channels slot cycle) payload)
step_of e (conflict source t channels slot cycle) = clocked (report_of e (conflict_report source t channels slot cycle) [])
step_of e (flexray-error source t channels bits) = clocked (report_of e (error_report source t channels bits) [])
step_of e (can-state source online passive busOff counter) = plain (update_of e (can_update source online passive busOff counter))
step_of e (lin-state source online) = plain (update_of e (lin_update source online))
step_of e (flexray-state source online bits) = plain (update_of e (flexray_update source online bits))
step_of e (can-mask source mask code) = numbered (add_of e (can_mask source mask code))
step_of e (can-range source lower upper) = numbered (add_of e (can_range source lower upper))
step_of e (lin-mask source mask code) = numbered (add_of e (lin_mask source mask code))
step_of e (lin-range source lower upper) = numbered (add_of e (lin_range source lower upper))
step_of e (slots source low high lowCycle highCycle repetition) = numbered (add_of e (slots_of source low high lowCycle highCycle repetition))
step_of e (remove source number) = plain (remove_of e source number)
step_of e (tick t) = clocked (tick_of e t)
step_of e (take out) = record {
  engine = (taken_of e (length out)).engine;
  said = said (λ n. n) (taken_of e (length out)).answer (output_of e out);
}
step_of e failed = plain (failed_of e)
step_of e discards = asked e (discards_of e)
step_of e failures = asked e (failures_of e)

-- the engine after a list of calls, and what they say, one after the other
abbrev pub run_of : Engine → List Call → Engine
run_of e [] = e
run_of e (c ∷ cs) = run_of (step_of e c).engine cs

abbrev pub said_of : Engine → List Call → List Said
said_of e [] = []
said_of e (c ∷ cs) = (step_of e c).said ∷ said_of (step_of e c).engine cs
