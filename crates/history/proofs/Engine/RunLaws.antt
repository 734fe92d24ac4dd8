-- Any list of calls: the engine's framer is the machine on the ledger's operations, and what the takes hand out is what the
-- ledger's takes do.
use mathlib.Core.Path.{◌≡◌, refl, sym, ◌∙◌, ap}
use mathlib.Core.Bool.{Bool, true, false}
use mathlib.Core.List.{List, [], ◌∷◌, ◌++◌, map, map-append, append-nil}
use native.Mathlib.Omega.{arith}
use lib.ListN.{take}
use lib.Dec.{eqb}
use borrow.Author.Tests.{eqb-true, eqb-false}
use Rattle.codec.specs.Choice.{pick}
use Rattle.mirror.specs.Call.{Call, step_of, run_of}
use Rattle.mirror.specs.declared.engine.Engine.{Engine}
use Rattle.mirror.proofs.Refused.{refused-keeps, not_broken}
use Rattle.history.specs.Meaning.{meaning}
use Rattle.history.specs.Account.{Account, state_events}
use Rattle.history.specs.Ledger.{Limits, Ledger, Op, waiting_in, run_l}
use Rattle.history.specs.Deed.{Deed, deeds_of, done, ops_of, accounts_by, ops_on}
use Rattle.history.specs.History.{Plain, All, frame_out, frames_taken}
use Rattle.history.proofs.Ground.Machine.{FitOp, laid, run_w, run_append}
use Rattle.history.proofs.Ground.ListLaws.{all_append}
use Rattle.history.proofs.Ledger.TakeLaws.{got_on, got_append, got_tick}
use Rattle.history.proofs.Framer.SimLaws.{Tied, size_is, run_tied}
use Rattle.history.proofs.Framer.OutputLaws.{take_out}
use Rattle.history.proofs.Sources.BookLaws.{book_of, Steady}
use Rattle.history.proofs.Engine.EngineLaws.{step_book, step_framer, step_fit, step_steady}

-- only a take hands out a frame
out_by : (c : Limits) (e : Engine) (l : Ledger) (x : Call) → Steady e → Tied c e.framer l → (step_of e x).said.answer ≡ 0
    → frame_out (meaning x) (step_of e x).said ≡ map laid (got_on c l (ops_of (book_of e) (meaning x)))
unfolding ops_of
out_by c e l (Call.take out) s t z = take_out c e l out t s.sound z ∙ ap (map laid) (sym (append-nil (take 1 (waiting_in l))))
out_by c e l (Call.tick x) s t z = ap (map laid) (sym (got_tick c l (state_events x (book_of e)) x))
out_by c e l (Call.setup size room deadline pairs) s t z = refl
out_by c e l (Call.switch size room deadline) s t z = refl
out_by c e l Call.offline s t z = refl
out_by c e l (Call.start source) s t z = refl
out_by c e l (Call.stop source) s t z = refl
out_by c e l (Call.can source x key payload) s t z = refl
out_by c e l (Call.lin source x pid bits payload) s t z = refl
out_by c e l (Call.flexray source x channels slot cycle payload) s t z = refl
out_by c e l (Call.conflict source x channels slot cycle) s t z = refl
out_by c e l (Call.flexray-error source x channels bits) s t z = refl
out_by c e l (Call.can-state source online passive busOff counter) s t z = refl
out_by c e l (Call.lin-state source online) s t z = refl
out_by c e l (Call.flexray-state source online bits) s t z = refl
out_by c e l (Call.can-mask source mask code) s t z = refl
out_by c e l (Call.can-range source lower upper) s t z = refl
out_by c e l (Call.lin-mask source mask code) s t z = refl
out_by c e l (Call.lin-range source lower upper) s t z = refl
out_by c e l (Call.slots source low high lowCycle highCycle repetition) s t z = refl
out_by c e l (Call.remove source number) s t z = refl
out_by c e l Call.failed s t z = refl
out_by c e l Call.discards s t z = refl
out_by c e l Call.failures s t z = refl

-- one call, accepted or not: the operations of its deed, and what they leave
unfoldable pub ops_by : List Account → Deed → List Op
ops_by book d = pick (done d) (ops_of book (meaning d.call)) []

abbrev pub deed_of : Engine → Call → Deed
deed_of e x = record { call = x; said = (step_of e x).said }

pub record Stepped (c : Limits) (e : Engine) (l : Ledger) (x : Call) : Type 0 where
  pub book : book_of (step_of e x).engine ≡ accounts_by (book_of e) (deed_of e x)
  pub framer : (step_of e x).engine.framer ≡ run_w e.framer (ops_by (book_of e) (deed_of e x))
  pub fit : All (FitOp c) (ops_by (book_of e) (deed_of e x))
  pub out : pick (done (deed_of e x)) (frame_out (meaning x) (step_of e x).said) [] ≡ map laid (got_on c l (ops_by (book_of e) (deed_of e x)))

pub stepped : (c : Limits) (e : Engine) (l : Ledger) (x : Call) → Steady e → Plain x → Tied c e.framer l → Stepped c e l x
unfolding ops_by accounts_by done
stepped c e l x s p t = go (eqb (step_of e x).said.answer 0) refl
  where
    go : (b : Bool) → eqb (step_of e x).said.answer 0 ≡ b → Stepped c e l x
    go true q =
        let z = eqb-true (step_of e x).said.answer 0 q in
        record {
          book = rw q (step_book e x s p z);
          framer = rw q (step_framer e x s p z);
          fit = rw q (step_fit e x s p c (size_is c e.framer l t) z);
          out = rw q (out_by c e l x s t z);
        }
    go false q =
        let k : (step_of e x).engine ≡ e = (refused-keeps e x (eqb-false (step_of e x).said.answer 0 q)).engine in
        record { book = rw (q, k); framer = rw (q, k); fit = rw q tt; out = rw q }

-- any list of calls
pub record Ran (c : Limits) (e : Engine) (l : Ledger) (xs : List Call) : Type 0 where
  pub framer : (run_of e xs).framer ≡ run_w e.framer (ops_on (book_of e) (deeds_of e xs))
  pub fit : All (FitOp c) (ops_on (book_of e) (deeds_of e xs))
  pub steady : Steady (run_of e xs)
  pub out : frames_taken (deeds_of e xs) ≡ map laid (got_on c l (ops_on (book_of e) (deeds_of e xs)))
  pub answers : All (λ (d : Deed). d.said.answer ≡ 19 → ⊥) (deeds_of e xs)

pub ops_more : (c : Limits) (e : Engine) (l : Ledger) (x : Call) (xs : List Call) → Stepped c e l x
    → ops_on (book_of e) (deeds_of e (x ∷ xs)) ≡ ops_by (book_of e) (deed_of e x) ++ ops_on (book_of (step_of e x).engine) (deeds_of (step_of e x).engine xs)
unfolding ops_by
ops_more c e l x xs n = rw n.book

pub ran : (c : Limits) (e : Engine) (l : Ledger) (xs : List Call) → Steady e → All Plain xs → Tied c e.framer l → Ran c e l xs
ran c e l [] s p t = record { framer = refl; fit = tt; steady = s; out = refl; answers = tt }
ran c e l (x ∷ xs) s p t =
    let n = stepped c e l x s p.0 t in
    let u : Engine = (step_of e x).engine in
    let a : List Op = ops_by (book_of e) (deed_of e x) in
    let b : List Op = ops_on (book_of u) (deeds_of u xs) in
    let k : Tied c u.framer (run_l c l a) = rw n.framer (run_tied c e.framer l a t n.fit) in
    let r = ran c u (run_l c l a) xs (step_steady e x s p.0) p.1 k in
    let o : ops_on (book_of e) (deeds_of e (x ∷ xs)) ≡ a ++ b = ops_more c e l x xs n in
    record {
      framer = rw (o, run_append e.framer a b, ← n.framer) r.framer;
      fit = rw o (all_append (FitOp c) a b n.fit r.fit);
      steady = r.steady;
      out = rw (o, got_append c l a b, map-append laid (got_on c l a) (got_on c (run_l c l a) b), n.out, r.out);
      answers = (λ z. let y = not_broken e x s.sound in omega (arith, z), r.answers);
    }

-- so the framer stays tied to the ledger of the deeds
pub ran_tied : (c : Limits) (e : Engine) (l : Ledger) (xs : List Call) → Steady e → All Plain xs → Tied c e.framer l
    → Tied c (run_of e xs).framer (run_l c l (ops_on (book_of e) (deeds_of e xs)))
ran_tied c e l xs s p t =
    let r = ran c e l xs s p t in
    rw r.framer (run_tied c e.framer l (ops_on (book_of e) (deeds_of e xs)) t r.fit)
