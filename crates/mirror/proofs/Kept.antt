-- The soundness rule: the engine before setup meets it, every call keeps it, and 19 is answered exactly where it is broken.
use Prim.Native.Nat.{ℕ, zero, suc, ◌/◌, ◌≤◌}
use mathlib.Core.Path.{◌≡◌, refl}
use mathlib.Core.Bool.{Bool, true, false, not, ◌&&◌}
use mathlib.Core.List.{List, [], ◌∷◌}
use native.Mathlib.Omega.{arith}
use lib.ListN.{length, get_or}
use lib.Dec.{leb, eqb}
use borrow.Author.Tests.{le-leb}
use Rattle.codec.specs.Choice.{pick}
use Rattle.codec.specs.Time.{time_ok}
use Rattle.codec.specs.declared.time.Time.{Time}
use Rattle.codec.specs.declared.time.Millis.{Millis}
use Rattle.framer.specs.declared.meter.Meter.{Meter}
use Rattle.codec.proofs.BoolLaws.{and_l, and_r}
use Rattle.framer.specs.Meter.{sound_meter, limits_ok}
use Rattle.framer.specs.Framer.{empty_framer, add, passed, take_of, failed}
use Rattle.framer.specs.declared.framer.Framer.{Framer}
use Rattle.framer.proofs.FramerLaws.{sounds}
use Rattle.framer.proofs.KeptLaws.{kept_empty, kept_add, kept_pass, kept_take, kept_failed}
use Rattle.bus.specs.Source.{tick_due, state_offer}
use Rattle.bus.specs.Report.{report_cause, offer_of, settled}
use Rattle.bus.specs.declared.source.Source.{Source}
use Rattle.bus.specs.declared.report.Report.{Report}
use Rattle.bus.specs.declared.update.Update.{Update}
use Rattle.bus.specs.declared.filter.Addition.{Addition}
use Rattle.bus.proofs.BusLaws.{cause_passed}
use Rattle.std.specs.Prelude.{Result, Ok, Err}
use Rattle.framer.specs.declared.cause.Cause.{Cause}
use Rattle.framer.proofs.FramerLaws.{passed-guard}
use Rattle.mirror.specs.Engine.{fresh_engine, sound_of, cause_of, answered, source_at, with_source, no_source}
use Rattle.mirror.specs.Setup.{sources_ok, setup_cause, setup_of, reset_of, switch_cause, switch_of, offline_of}
use Rattle.mirror.specs.Source.{start_of, stop_of, update_of, add_of, remove_of}
use Rattle.mirror.specs.Report.{reported, report_of}
use Rattle.mirror.specs.Tick.{tick_source, states_of, ticked, tick_cause, tick_of}
use Rattle.mirror.specs.Take.{taken_of}
use Rattle.mirror.specs.Failed.{failed_cause, failed_of}
use Rattle.mirror.specs.Call.{Call, step_of, run_of}
use Rattle.mirror.specs.declared.engine.Engine.{Engine}
use Rattle.mirror.proofs.MirrorLaws.{few, few_pairs}

-- the engine before setup
pub fresh_sound : sound_of fresh_engine ≡ true
unfolding sound_of fresh_engine empty_framer limits_ok
fresh_sound = kept_empty 32 1 (record { 0 = 0 }) refl

-- the rule looks at the count and the framer alone
pub sound_by : (n : ℕ) (sources : List Source) (w : Framer) → n ≤ 8 → sound_meter w.meter ≡ true
    → sound_of (record { count = n; sources = sources; framer = w }) ≡ true
unfolding sound_of
sound_by n sources w h s = rw (le-leb n 8 h, s)

pub metered : (e : Engine) → sound_of e ≡ true → sound_meter e.framer.meter ≡ true
unfolding sound_of
metered e s = and_r (leb e.count 8) (sound_meter e.framer.meter) s

-- a refused call keeps everything, so only what an accepted one leaves is asked for
answered_sound : {A : Type 0} (e after : Engine) (x : A) (r : Result Unit Cause) → sound_of e ≡ true → (r ≡ Ok tt → sound_of after ≡ true)
    → sound_of (answered e (cause_of e r) x after).engine ≡ true
unfolding cause_of
answered_sound {A} e after x r s k = rw s (go r refl)
  where
    go : (q : Result Unit Cause) → r ≡ q → sound_of (answered e q x after).engine ≡ true
    go (Ok u) g = k g
    go (Err c) g = s

-- one source changed
with_sound : (e : Engine) (source : ℕ) (s : Source) (w : Framer) → sound_of e ≡ true → sound_meter w.meter ≡ true → sound_of (with_source e source s w) ≡ true
unfolding with_source
with_sound e source s w h g = sound_by e.count _ w (few e h) g

-- reports: an accepted item fits an empty frame
reported_sound : (e : Engine) (r : Report) (payload : List ℕ) → sound_of e ≡ true
    → report_cause e.count e.framer.meter.size (source_at e r.source) r (length payload) ≡ Ok tt → sound_of (reported e r payload) ≡ true
unfolding reported offer_of
reported_sound e r payload s c =
    let p = cause_passed e.count e.framer.meter.size (source_at e r.source) r (length payload) c in
    with_sound e r.source (settled (source_at e r.source) r) (add e.framer r.time (offer_of (source_at e r.source) r) payload) s
    (kept_add e.framer r.time (offer_of (source_at e r.source) r) payload (metered e s) p.time (omega (arith, p.fits)))

report_sound : (e : Engine) (r : Report) (payload : List ℕ) → sound_of e ≡ true → sound_of (report_of e r payload).engine ≡ true
unfolding report_of
report_sound e r payload s = answered_sound e (reported e r payload) _ _ s (reported_sound e r payload s)

-- state updates, filters, starting and stopping leave the framer as it is
update_sound : (e : Engine) (u : Update) → sound_of e ≡ true → sound_of (update_of e u).engine ≡ true
unfolding update_of
update_sound e u s = answered_sound e _ _ _ s (λ z. with_sound e _ _ e.framer s (metered e s))

start_sound : (e : Engine) (source : ℕ) → sound_of e ≡ true → sound_of (start_of e source).engine ≡ true
unfolding start_of
start_sound e source s = answered_sound e _ _ _ s (λ z. with_sound e _ _ e.framer s (metered e s))

stop_sound : (e : Engine) (source : ℕ) → sound_of e ≡ true → sound_of (stop_of e source).engine ≡ true
unfolding stop_of
stop_sound e source s = answered_sound e _ _ _ s (λ z. with_sound e _ _ e.framer s (metered e s))

remove_sound : (e : Engine) (source number : ℕ) → sound_of e ≡ true → sound_of (remove_of e source number).engine ≡ true
unfolding remove_of
remove_sound e source number s = answered_sound e _ _ _ s (λ z. with_sound e _ _ e.framer s (metered e s))

add_sound : (e : Engine) (a : Addition) → sound_of e ≡ true → sound_of (add_of e a).engine ≡ true
unfolding add_of
add_sound e a s = answered_sound e _ _ _ s (λ z. with_sound e _ _ e.framer s (metered e s))

-- a tick: a state-only item has 5 bytes
shown_sound : (e : Engine) (t : Time) (s : Source) → sound_of e ≡ true → time_ok t ≡ true → sound_meter (add e.framer t (state_offer s) []).meter ≡ true
unfolding state_offer
shown_sound e t s h g = kept_add e.framer t (state_offer s) [] (metered e h) g (omega (arith, (sounds e.framer.meter (metered e h)).size_least))

source_sound : (e : Engine) (k : ℕ) (t : Time) → sound_of e ≡ true → time_ok t ≡ true → sound_of (tick_source e k t) ≡ true
unfolding tick_source
source_sound e k t h g = go (tick_due (get_or e.sources k no_source)) refl
  where
    go : (b : Bool) → tick_due (get_or e.sources k no_source) ≡ b → sound_of (tick_source e k t) ≡ true
    go true q = rw q (sound_by e.count _ _ (few e h) (shown_sound e t (get_or e.sources k no_source) h g))
    go false q = rw q (sound_by e.count _ _ (few e h) (metered e h))

states_sound : (n k : ℕ) (e : Engine) (t : Time) → sound_of e ≡ true → time_ok t ≡ true → sound_of (states_of n k e t) ≡ true
states_sound zero k e t h g = h
states_sound (suc n) k e t h g = states_sound n (suc k) (tick_source e k t) t (source_sound e k t h g) g

ticked_sound : (e : Engine) (t : Time) → sound_of e ≡ true → time_ok t ≡ true → sound_of (ticked e t) ≡ true
unfolding ticked
ticked_sound e t h g =
    let x = states_of e.count 0 e t in
    let s : sound_of x ≡ true = states_sound e.count 0 e t h g in
    sound_by x.count x.sources (passed x.framer t) (few x s) (kept_pass x.framer t (metered x s))

tick_sound : (e : Engine) (t : Time) → sound_of e ≡ true → sound_of (tick_of e t).engine ≡ true
unfolding tick_of tick_cause
tick_sound e t s = answered_sound e (ticked e t) _ _ s (λ z. ticked_sound e t s (passed-guard (time_ok t) Cause.BadTime (Ok tt) tt z).0)

-- taking
take_sound : (e : Engine) (n : ℕ) → sound_of e ≡ true → sound_of (taken_of e n).engine ≡ true
unfolding taken_of
take_sound e n s = rw s (sound_by e.count e.sources (take_of e.framer n).framer (few e s) (kept_take e.framer n (metered e s)))

-- a failed send
failed_sound : (e : Engine) → sound_of e ≡ true → sound_of (failed_of e).engine ≡ true
unfolding failed_of failed_cause
failed_sound e s = answered_sound e _ _ _ s (λ z. sound_by e.count e.sources (failed e.framer) (few e s) (kept_failed e.framer (metered e s)))

-- setup, switch and offline
setup_sound : (e : Engine) (size room deadline : ℕ) (pairs : List ℕ) → sound_of e ≡ true → sound_of (setup_of e size room deadline pairs).engine ≡ true
unfolding setup_of setup_cause empty_framer
setup_sound e size room deadline pairs s = answered_sound e _ _ _ s (λ z.
    let f = (passed-guard (eqb e.count 0 && limits_ok size room deadline && sources_ok pairs) Cause.BadSetup (Ok tt) tt z).0 in
    let g : limits_ok size room deadline ≡ true = and_r (eqb e.count 0) (limits_ok size room deadline) (and_l (eqb e.count 0 && limits_ok size room deadline) (sources_ok pairs) f) in
    let p = few_pairs pairs (and_r (eqb e.count 0 && limits_ok size room deadline) (sources_ok pairs) f) in
    sound_by (length pairs / 2) _ (empty_framer size room (record { 0 = deadline })) (omega arith) (kept_empty size room (record { 0 = deadline }) g))

reset_sound : (e : Engine) (size room : ℕ) (deadline : Millis) → sound_of e ≡ true → limits_ok size room deadline.0 ≡ true → sound_of (reset_of e size room deadline) ≡ true
unfolding reset_of empty_framer
reset_sound e size room deadline s g = sound_by e.count _ (empty_framer size room deadline) (few e s) (kept_empty size room deadline g)

switch_sound : (e : Engine) (size room deadline : ℕ) → sound_of e ≡ true → sound_of (switch_of e size room deadline).engine ≡ true
unfolding switch_of switch_cause
switch_sound e size room deadline s = answered_sound e _ _ _ s (λ z.
    let f = (passed-guard (not (eqb e.count 0) && limits_ok size room deadline) Cause.BadSetup (Ok tt) tt z).0 in
    reset_sound e size room (record { 0 = deadline }) s (and_r (not (eqb e.count 0)) (limits_ok size room deadline) f))

same_limits : (m : Meter) → sound_meter m ≡ true → limits_ok m.size m.room m.deadline.0 ≡ true
unfolding limits_ok
same_limits m e =
    let s = sounds m e in
    rw (le-leb 32 m.size s.size_least, le-leb m.size 1024 s.size_most, le-leb 1 m.room s.room_least, le-leb m.room 8 s.room_most, le-leb m.deadline.0 655 s.deadline)

offline_sound : (e : Engine) → sound_of e ≡ true → sound_of (offline_of e).engine ≡ true
unfolding offline_of
offline_sound e s = answered_sound e _ _ _ s (λ z. go (eqb e.count 0))
  where
    go : (b : Bool) → sound_of (pick b e (reset_of e e.framer.meter.size e.framer.meter.room e.framer.meter.deadline)) ≡ true
    go true = s
    go false = reset_sound e e.framer.meter.size e.framer.meter.room e.framer.meter.deadline s (same_limits e.framer.meter (metered e s))

-- every call keeps the rule
pub kept : (e : Engine) (c : Call) → sound_of e ≡ true → sound_of (step_of e c).engine ≡ true
kept e (Call.setup size room deadline pairs) s = setup_sound e size room deadline pairs s
kept e (Call.switch size room deadline) s = switch_sound e size room deadline s
kept e Call.offline s = offline_sound e s
kept e (Call.start source) s = start_sound e source s
kept e (Call.stop source) s = stop_sound e source s
kept e (Call.can source t key payload) s = report_sound e _ payload s
kept e (Call.lin source t pid errors payload) s = report_sound e _ payload s
kept e (Call.flexray source t channels slot cycle payload) s = report_sound e _ payload s
kept e (Call.conflict source t channels slot cycle) s = report_sound e _ [] s
kept e (Call.flexray-error source t channels bits) s = report_sound e _ [] s
kept e (Call.can-state source online passive busOff counter) s = update_sound e _ s
kept e (Call.lin-state source online) s = update_sound e _ s
kept e (Call.flexray-state source online bits) s = update_sound e _ s
kept e (Call.can-mask source mask code) s = add_sound e _ s
kept e (Call.can-range source lower upper) s = add_sound e _ s
kept e (Call.lin-mask source mask code) s = add_sound e _ s
kept e (Call.lin-range source lower upper) s = add_sound e _ s
kept e (Call.slots source low high lowCycle highCycle repetition) s = add_sound e _ s
kept e (Call.remove source number) s = remove_sound e source number s
kept e (Call.tick t) s = tick_sound e t s
kept e (Call.take out) s = take_sound e (length out) s
kept e Call.failed s = failed_sound e s
kept e Call.discards s = s
kept e Call.failures s = s

-- so every engine that calls make of the one before setup is sound
pub always : (cs : List Call) (e : Engine) → sound_of e ≡ true → sound_of (run_of e cs) ≡ true
always [] e s = s
always (c ∷ cs) e s = always cs (step_of e c).engine (kept e c s)

pub reachable : (cs : List Call) → sound_of (run_of fresh_engine cs) ≡ true
reachable cs = always cs fresh_engine fresh_sound
