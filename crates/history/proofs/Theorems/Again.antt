-- After an accepted offline or switch a new history begins, with the same sources.
use Prim.Native.Nat.{ℕ}
use mathlib.Core.Path.{◌≡◌, refl, ◌∙◌, ap}
use mathlib.Core.Logic.{inl, inr}
use mathlib.Core.Bool.{Bool, true, false, not, ◌&&◌}
use mathlib.Core.List.{List, [], ◌∷◌, map}
use native.Mathlib.Omega.{arith}
use lib.Dec.{eqb}
use borrow.Author.Tests.{eqb-true, eqb-false, le-leb, ne_eqb}
use Rattle.codec.specs.Choice.{pick}
use Rattle.codec.proofs.BoolLaws.{and_r}
use Rattle.std.specs.Prelude.{Ok}
use Rattle.framer.specs.Cause.{guard}
use Rattle.framer.specs.declared.cause.Cause.{Cause}
use Rattle.framer.specs.Meter.{limits_ok, sound_meter}
use Rattle.mirror.specs.Engine.{cause_of}
use Rattle.framer.specs.declared.meter.Meter.{Meter}
use Rattle.framer.proofs.FramerLaws.{sounds, passed-guard}
use Rattle.mirror.specs.Setup.{reset_of, switch_cause, switch_of, offline_of}
use Rattle.mirror.specs.Call.{Call, step_of, run_of}
use Rattle.mirror.specs.declared.engine.Engine.{Engine}
use Rattle.mirror.proofs.Refused.{refused-keeps}
use Rattle.history.specs.Meaning.{Meaning, starts, stops, updates, reports, ticks, takes, fails, switches, drops, nothing, meaning}
use Rattle.history.specs.Account.{Account, accounts_for}
use Rattle.history.specs.Ledger.{Limits, Ledger, Op, empty_ledger, run_l}
use Rattle.history.specs.Deed.{deeds_of, done, ops_on}
use Rattle.history.specs.History.{All, Allowed, Plain, set_up, Leaves}
use Rattle.history.specs.Again.{Resets, Typed, limits_of, limits_on}
use Rattle.history.proofs.Framer.MeterLaws.{meter_of}
use Rattle.history.proofs.Sources.BookLaws.{book_of, Steady, accepted}
use Rattle.history.proofs.Engine.EngineLaws.{step_book}
use Rattle.history.proofs.Framer.SimLaws.{Tied}
use Rattle.history.proofs.Engine.RunLaws.{ran, ran_tied}
use Rattle.history.proofs.Theorems.Theorem.{Begun, setup_begun, history_from}
use Rattle.history.proofs.Theorems.ResetLaws.{renewed, book_stays, renewed_fresh, renewed_twice, after_begun}

-- an engine at any moment after setup: its framer is tied to some ledger of the limits c, and its sources are those of the book
record Alive (c : Limits) (book : List Account) (e : Engine) : Type 0 where
  steady : Steady e
  ledger : Ledger
  tied : Tied c e.framer ledger
  sources : map renewed (book_of e) ≡ book

-- an accepted switch, and offline, which is never refused then
switch_begun : (e : Engine) (size room deadline : ℕ) → Steady e → (step_of e (Call.switch size room deadline)).said.answer ≡ 0
    → Begun (record { size = size; room = room; deadline = deadline }) (map renewed (book_of e)) (step_of e (Call.switch size room deadline)).engine
unfolding switch_of switch_cause
switch_begun e size room deadline s z =
    let b : Bool = not (eqb e.count 0) && limits_ok size room deadline in
    let a = accepted e (reset_of e size room (record { 0 = deadline })) tt (guard b Cause.BadSetup (Ok tt)) z in
    let h : b ≡ true = (passed-guard b Cause.BadSetup (Ok tt) tt a.0).0 in
    rw a.1 (after_begun (record { size = size; room = room; deadline = deadline }) e s (and_r (not (eqb e.count 0)) (limits_ok size room deadline) h))

limits_kept : (m : Meter) → sound_meter m ≡ true → limits_ok m.size m.room m.deadline.0 ≡ true
unfolding limits_ok
limits_kept m s =
    let k = sounds m s in
    rw (
      le-leb 32 m.size k.size_least,
      le-leb m.size 1024 k.size_most,
      le-leb 1 m.room k.room_least,
      le-leb m.room 8 k.room_most,
      le-leb m.deadline.0 655 k.deadline,
    )

offline_begun : (c : Limits) (book : List Account) (e : Engine) → Alive c book e → Begun c (map renewed (book_of e)) (step_of e Call.offline).engine
unfolding offline_of cause_of meter_of
offline_begun c book e a =
    let s = a.steady in
    let n : eqb e.count 0 ≡ false = ne_eqb e.count 0 (λ z. let y : ⊥ = omega (arith, s.some) in y) in
    let h : limits_ok c.size c.room c.deadline ≡ true = limits_kept (meter_of c a.ledger) (rw a.tied.tie.meter at a.tied.sound) in
    let o : (offline_of e).engine ≡ reset_of e c.size c.room (record { 0 = c.deadline })
    = rw (s.sound, n) (ap (λ (m : Meter). reset_of e m.size m.room m.deadline) a.tied.tie.meter) in
    rw o (after_begun c e s h)

resets_begun : (c : Limits) (book : List Account) (e : Engine) (x : Call) → Alive c book e → Resets (meaning x) → (step_of e x).said.answer ≡ 0
    → Begun (limits_of c (meaning x)) (map renewed (book_of e)) (step_of e x).engine
resets_begun c book e (Call.switch size room deadline) a r z = switch_begun e size room deadline a.steady z
resets_begun c book e Call.offline a r z = offline_begun c book e a
resets_begun c book e (Call.setup size room deadline pairs) a r z = absurd r
resets_begun c book e (Call.start source) a r z = absurd r
resets_begun c book e (Call.stop source) a r z = absurd r
resets_begun c book e (Call.can source t key payload) a r z = absurd r
resets_begun c book e (Call.lin source t pid bits payload) a r z = absurd r
resets_begun c book e (Call.flexray source t channels slot cycle payload) a r z = absurd r
resets_begun c book e (Call.conflict source t channels slot cycle) a r z = absurd r
resets_begun c book e (Call.flexray-error source t channels bits) a r z = absurd r
resets_begun c book e (Call.can-state source online passive busOff counter) a r z = absurd r
resets_begun c book e (Call.lin-state source online) a r z = absurd r
resets_begun c book e (Call.flexray-state source online bits) a r z = absurd r
resets_begun c book e (Call.can-mask source mask code) a r z = absurd r
resets_begun c book e (Call.can-range source lower upper) a r z = absurd r
resets_begun c book e (Call.lin-mask source mask code) a r z = absurd r
resets_begun c book e (Call.lin-range source lower upper) a r z = absurd r
resets_begun c book e (Call.slots source low high lowCycle highCycle repetition) a r z = absurd r
resets_begun c book e (Call.remove source number) a r z = absurd r
resets_begun c book e (Call.tick t) a r z = absurd r
resets_begun c book e (Call.take out) a r z = absurd r
resets_begun c book e Call.failed a r z = absurd r
resets_begun c book e Call.discards a r z = absurd r
resets_begun c book e Call.failures a r z = absurd r

-- a call that resets nothing leaves the limits
plain_limits : (c : Limits) (m : Meaning) → Allowed m → limits_of c m ≡ c
plain_limits c (starts source) p = refl
plain_limits c (stops source) p = refl
plain_limits c (updates source byte) p = refl
plain_limits c (reports source b t ident carries payload) p = refl
plain_limits c (ticks t) p = refl
plain_limits c takes p = refl
plain_limits c fails p = refl
plain_limits c (switches size room deadline) p = absurd p
plain_limits c drops p = absurd p
plain_limits c nothing p = refl

abbrev limits_by : Limits → Engine → Call → Limits
limits_by c e x = pick (done (record { call = x; said = (step_of e x).said })) (limits_of c (meaning x)) c

step_alive : (c : Limits) (book : List Account) (e : Engine) (x : Call) → Alive c book e → Typed x → Alive (limits_by c e x) book (step_of e x).engine
unfolding done
step_alive c book e x a p = go (eqb (step_of e x).said.answer 0) refl p
  where
    go : (b : Bool) → eqb (step_of e x).said.answer 0 ≡ b → Typed x → Alive (limits_by c e x) book (step_of e x).engine
    go false q p = rw (q, (refused-keeps e x (eqb-false (step_of e x).said.answer 0 q)).engine) a
    go true q (inl p) =
        let r = ran c e a.ledger (x ∷ []) a.steady (p, tt) a.tied in
        let ops : List Op = ops_on (book_of e) (deeds_of e (x ∷ [])) in
        rw (q, plain_limits c (meaning x) p) (record {
          steady = r.steady;
          ledger = run_l c a.ledger ops;
          tied = ran_tied c e a.ledger (x ∷ []) a.steady (p, tt) a.tied;
          sources = ap (map renewed) (step_book e x a.steady p (eqb-true (step_of e x).said.answer 0 q)) ∙ book_stays (book_of e) (meaning x) ∙ a.sources;
        })
    go true q (inr r) =
        let b = resets_begun c book e x a r (eqb-true (step_of e x).said.answer 0 q) in
        rw q (record {
          steady = b.steady;
          ledger = empty_ledger;
          tied = b.tied;
          sources = ap (map renewed) b.accounts ∙ renewed_twice (book_of e) ∙ a.sources;
        })

run_alive : (c : Limits) (book : List Account) (e : Engine) (xs : List Call) → Alive c book e → All Typed xs → Alive (limits_on c (deeds_of e xs)) book (run_of e xs)
run_alive c book e [] a p = a
run_alive c book e (x ∷ xs) a p = run_alive (limits_by c e x) book (step_of e x).engine xs (step_alive c book e x a p.0) p.1

-- so demand 3 holds from each accepted offline or switch on, however many there were before
pub again : (e : Engine) (c : Limits) (pairs : List ℕ) (before : List Call) (x : Call) (after : List Call)
    → (set_up e c pairs).said.answer ≡ 0 → All Typed before → Resets (meaning x) → (step_of (run_of (set_up e c pairs).engine before) x).said.answer ≡ 0 → All Plain after
    → Leaves (limits_of (limits_on c (deeds_of (set_up e c pairs).engine before)) (meaning x)) (accounts_for pairs)
    (step_of (run_of (set_up e c pairs).engine before) x).engine after
again e c pairs before x after z p r y q =
    let b = setup_begun e c pairs z in
    let u : Engine = (set_up e c pairs).engine in
    let v : Engine = run_of u before in
    let d : Limits = limits_on c (deeds_of u before) in
    let k : Alive d (accounts_for pairs) v
    = run_alive c (accounts_for pairs) u before (record { steady = b.steady; ledger = empty_ledger; tied = b.tied; sources = ap (map renewed) b.accounts ∙ renewed_fresh pairs }) p in
    let n = resets_begun d (accounts_for pairs) v x k r y in
    history_from (limits_of d (meaning x)) (accounts_for pairs) (step_of v x).engine after
    (record { steady = n.steady; tied = n.tied; accounts = n.accounts ∙ k.sources }) q
