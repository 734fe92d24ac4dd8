-- An accepted take: the oldest waiting frame leaves the framer, and stands at the front of the output.
use Prim.Native.Nat.{ℕ, ◌+◌, ◌≤◌}
use mathlib.Core.Path.{◌≡◌, refl, ◌∙◌, ap}
use mathlib.Core.Bool.{true}
use mathlib.Core.List.{List, [], ◌∷◌, map}
use native.Mathlib.Omega.{arith}
use lib.ListN.{length, take, drop}
use lib.Seq.{take_at}
use Rattle.std.specs.Prelude.{Ok}
use Rattle.framer.specs.Cause.{answer_of}
use Rattle.framer.proofs.FramerLaws.{answered_0, readied}
use Rattle.framer.specs.Queue.{length_at, frame_at}
use Rattle.framer.specs.Framer.{ready_of, take_of, out_of}
use Rattle.framer.specs.declared.framer.Framer.{Framer}
use Rattle.mirror.specs.Engine.{sound_of}
use Rattle.mirror.specs.Take.{taken_of, output_of}
use Rattle.mirror.specs.Call.{Call, step_of}
use Rattle.mirror.specs.declared.engine.Engine.{Engine}
use Rattle.history.specs.Meaning.{takes}
use Rattle.history.specs.Ledger.{Limits, Frame, Ledger, waiting_in}
use Rattle.history.specs.Ledger as Rules
use Rattle.history.specs.History.{frame_out}
use Rattle.history.proofs.Ground.Machine.{laid, step_w}
use Rattle.history.proofs.Framer.SlotLaws.{frame_length}
use Rattle.history.proofs.Framer.MeterLaws.{meter_of}
use Rattle.history.proofs.Framer.SimLaws.{Tied, slots_are}

-- what a framer's take that is answered 0 does
pub record Takes (w : Framer) (n : ℕ) : Type 0 where
  pub waits : w.meter.waiting ≡ 0 → ⊥
  pub answer : (take_of w n).answer ≡ Ok (length_at w.queue w.meter.first)
  pub framer : (take_of w n).framer ≡ step_w w Rules.take

pub taking : (w : Framer) (n : ℕ) → answer_of (take_of w n).answer ≡ 0 → Takes w n
unfolding take_of
taking w n z =
    let k = answered_0 (ready_of w n) z in
    let y = readied w n k.0 k.1 in
    record { waits = y.waits; answer = k.1 ∙ ap Ok y.long; framer = rw k.1 }

-- the slot of the oldest waiting frame
module _ (c : Limits) (w : Framer) (l : Ledger) (t : Tied c w l) where
  oldest : (fs : List Frame) → waiting_in l ≡ fs → (w.meter.waiting ≡ 0 → ⊥) → frame_at w.queue w.meter.first ∷ [] ≡ map laid (take 1 fs)
  unfolding meter_of
  oldest [] e n = absurd (n (rw t.tie.meter (ap length e)))
  oldest (f ∷ fs) e n = rw t.tie.meter (ap (take 1) (slots_are c w l t.tie (f ∷ fs) e))

  pub first_small : w.meter.first ≤ 7
  unfolding meter_of
  first_small = rw t.tie.meter (omega arith)

pub take_out : (c : Limits) (e : Engine) (l : Ledger) (out : List ℕ) → Tied c e.framer l → sound_of e ≡ true → (step_of e (Call.take out)).said.answer ≡ 0
    → frame_out takes (step_of e (Call.take out)).said ≡ map laid (take 1 (waiting_in l))
unfolding taken_of output_of out_of take_of
take_out c e l out t s z =
    let w : Framer = e.framer in
    let y : answer_of (take_of w (length out)).answer ≡ 0 = rw s at z in
    let k = taking w (length out) y in
    let bs : List ℕ = frame_at w.queue w.meter.first in
    let n : length bs ≡ length_at w.queue w.meter.first = frame_length w.queue w.meter.first t.tie.store (first_small c w l t) in
    rw (s, k.answer)
    (ap (λ (x : List ℕ). x ∷ []) (take_at bs (drop (0 + length bs) out) (length_at w.queue w.meter.first) n) ∙ oldest c w l t (waiting_in l) refl k.waits)
