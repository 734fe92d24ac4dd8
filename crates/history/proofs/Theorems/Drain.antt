-- The frames that wait are what the next takes hand out, if each lends 1,024 bytes.
use Prim.Native.Nat.{ℕ, suc, ◌≤◌}
use mathlib.Core.Path.{◌≡◌, refl, ◌∙◌, ap}
use mathlib.Core.Bool.{true}
use mathlib.Core.List.{List, [], ◌∷◌, ◌++◌, map}
use native.Mathlib.Omega.{arith}
use lib.ListN.{length, take, replicate, length-map}
use borrow.Author.Tests.{ne_eqb, le-leb, eq-eqb}
use Rattle.framer.specs.Queue.{length_at}
use Rattle.framer.specs.Framer.{ready_of, take_of}
use Rattle.mirror.specs.Engine.{sound_of}
use Rattle.mirror.specs.Take.{taken_of}
use Rattle.mirror.specs.Call.{Call, step_of, run_of}
use Rattle.mirror.specs.declared.engine.Engine.{Engine}
use Rattle.history.specs.Meaning.{takes}
use Rattle.history.specs.Account.{Account, accounts_for}
use Rattle.history.specs.Ledger.{Limits, Frame, Ledger, empty_ledger, waiting_in, taken, run_l}
use Rattle.history.specs.Ledger as Rules
use Rattle.history.specs.Deed.{deeds_of, done, ops_of, ops_on}
use Rattle.history.specs.History.{Plain, All, frame_out, frames_taken, frames_waiting, set_up}
use Rattle.history.proofs.Ground.Machine.{laid, step_w}
use Rattle.history.proofs.Framer.MeterLaws.{meter_of}
use Rattle.history.proofs.Framer.SimLaws.{Tied, step_tied}
use Rattle.history.proofs.Ledger.LedgerLaws.{took_waiting}
use Rattle.history.proofs.Ledger.Moves.{taken_one}
use Rattle.history.proofs.Framer.SlotLaws.{length_most}
use Rattle.history.proofs.Framer.OutputLaws.{first_small, take_out}
use Rattle.history.proofs.Sources.BookLaws.{book_of, Steady}
use Rattle.history.proofs.Engine.EngineLaws.{step_framer, step_steady}
use Rattle.history.proofs.Theorems.Theorem.{Begun, end_steady, end_tied, waiting_are, setup_begun}

-- as many takes as frames wait hand out just these
abbrev pub Drains : Engine → List ℕ → Type 0
Drains e out = frames_taken (deeds_of e (replicate (length (frames_waiting e)) (Call.take out))) ≡ frames_waiting e

-- no slot holds more than 1,024 bytes, so a take with room for them is answered 0
module _ (c : Limits) (e : Engine) (l : Ledger) (out : List ℕ) (t : Tied c e.framer l) (s : sound_of e ≡ true) (h : 1024 ≤ length out) where
  answered_0 : (f : Frame) (fs : List Frame) → waiting_in l ≡ f ∷ fs → (step_of e (Call.take out)).said.answer ≡ 0
  unfolding taken_of take_of ready_of meter_of
  answered_0 f fs q =
      let n : e.framer.meter.waiting ≡ suc (length fs) = rw t.tie.meter (ap length q) in
      let m = length_most e.framer.queue e.framer.meter.first (first_small c e.framer l t) in
      rw (
        s,
        t.sound,
        ne_eqb e.framer.meter.waiting 0 (λ z. let y : ⊥ = omega arith in y),
        le-leb (length_at e.framer.queue e.framer.meter.first) (length out) (omega arith),
      )

framer_after : (e : Engine) (out : List ℕ) → Steady e → (step_of e (Call.take out)).said.answer ≡ 0 → (step_of e (Call.take out)).engine.framer ≡ step_w e.framer Rules.take
unfolding ops_of
framer_after e out s z = step_framer e (Call.take out) s tt z

takes_all : (c : Limits) (e : Engine) (l : Ledger) (out : List ℕ) (fs : List Frame) → Steady e → Tied c e.framer l → 1024 ≤ length out → waiting_in l ≡ fs
    → frames_taken (deeds_of e (replicate (length fs) (Call.take out))) ≡ map laid fs
unfolding done
takes_all c e l out [] s t h q = refl
takes_all c e l out (f ∷ fs) s t h q =
    let z = answered_0 c e l out t s.sound h f fs q in
    let u : Engine = (step_of e (Call.take out)).engine in
    let k : Tied c u.framer (taken l) = rw (framer_after e out s z) (step_tied c e.framer l Rules.take t tt) in
    let w : waiting_in (taken l) ≡ fs = rw (taken_one l f fs q) (took_waiting l f fs q) in
    let o : frame_out takes (step_of e (Call.take out)).said ≡ laid f ∷ []
    = take_out c e l out t s.sound z ∙ ap (λ (x : List Frame). map laid (take 1 x)) q in
    let r = takes_all c u (taken l) out fs (step_steady e (Call.take out) s tt) k h w in
    rw (eq-eqb (step_of e (Call.take out)).said.answer 0 z)
    (ap (λ (x : List (List ℕ)). x ++ frames_taken (deeds_of u (replicate (length fs) (Call.take out)))) o ∙ ap (λ (x : List (List ℕ)). laid f ∷ x) r)

drains : (c : Limits) (book : List Account) (e : Engine) (calls : List Call) (out : List ℕ) → Begun c book e → All Plain calls → 1024 ≤ length out
    → Drains (run_of e calls) out
drains c book e calls out b p h =
    let u : Engine = run_of e calls in
    let l : Ledger = run_l c empty_ledger (ops_on (book_of e) (deeds_of e calls)) in
    let t : Tied c u.framer l = end_tied c book e calls b p in
    let n : length (map laid (waiting_in l)) ≡ length (waiting_in l) = length-map (waiting_in l) laid in
    rw (waiting_are c u l t, n) (takes_all c u l out (waiting_in l) (end_steady c book e calls b p) t h refl)

-- after an accepted setup and any calls
pub drain : (e : Engine) (c : Limits) (pairs : List ℕ) (calls : List Call) (out : List ℕ) → (set_up e c pairs).said.answer ≡ 0 → All Plain calls
    → 1024 ≤ length out → Drains (run_of (set_up e c pairs).engine calls) out
drain e c pairs calls out z p h = drains c (accounts_for pairs) (set_up e c pairs).engine calls out (setup_begun e c pairs z) p h
