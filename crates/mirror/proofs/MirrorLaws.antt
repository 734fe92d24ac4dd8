-- Laws of the engine's definitions, over plain variables: each is one `returns` of the code.
use Prim.Native.Nat.{ℕ, suc, ◌+◌, ◌-◌, ◌≤◌, ◌<◌}
use mathlib.Core.Path.{◌≡◌, ◌∙◌}
use mathlib.Core.Bool.{true, false, not, ◌&&◌, true≢false, false≢true}
use mathlib.Core.List.{List, [], ◌∷◌, map}
use native.Mathlib.Omega.{arith}
use native.Mathlib.Numerals.{add-one}
use lib.ListN.{length, get_or, set, take, drop}
use lib.Seq.{take_all}
use lib.Dec.{leb, eqb}
use borrow.Author.Tests.{leb-true}
use Rattle.std.specs.Prelude.{Result, Ok, Err, is_ok}
use Rattle.codec.proofs.BoolLaws.{and_l, and_r}
use Rattle.framer.specs.Cause.{guard, gives}
use Rattle.framer.specs.declared.cause.Cause.{Cause}
use Rattle.framer.proofs.FramerLaws.{passed-guard}
use Rattle.framer.proofs.KeptLaws.{limits}
use Rattle.codec.specs.declared.time.Time.{Time}
use Rattle.codec.specs.declared.time.Millis.{Millis}
use Rattle.framer.specs.Meter.{limits_ok, sound_meter}
use Rattle.framer.specs.Framer.{empty_framer, add, passed}
use Rattle.framer.specs.declared.framer.Framer.{Framer}
use Rattle.framer.specs.declared.offer.Offer.{Offer}
use Rattle.bus.specs.Source.{free_at, add_cause, added_filter, tick_due, state_offer, calmed, reset_source}
use Rattle.bus.specs.Report.{report_cause, offer_of, settled}
use Rattle.bus.specs.declared.source.Source.{Source}
use Rattle.bus.specs.declared.filter.Addition.{Addition}
use Rattle.bus.specs.declared.report.Report.{Report}
use Rattle.mirror.specs.Engine.{sound_of, cause_of, answered, index_of, no_source, source_at, with_source}
use Rattle.mirror.specs.Setup.{source_numbered, pairs_ok, sources_ok, named, setup_cause, reset_of, switch_cause}
use Rattle.mirror.specs.Source.{stored_of, add_of}
use Rattle.mirror.specs.Report.{reported}
use Rattle.mirror.specs.Tick.{tick_source, states_of, ticked}
use Rattle.mirror.specs.declared.engine.Engine.{Engine}
use Rattle.mirror.specs.declared.engine.Outcome.{Outcome}

-- refused and done
pub refused : {A : Type 0} (e : Engine) (r cause : Result Unit Cause) (c : Cause) (x : A) (after : Engine) → r ≡ cause → r ≡ Err c
    → record { engine = e; answer = Err c } ≡ answered e cause x after
refused e r cause c x after g n = rw (← g, n)

pub done : {A : Type 0} (e : Engine) (r cause : Result Unit Cause) (u : Unit) (x y : A) (after z : Engine) → r ≡ cause → r ≡ Ok u → y ≡ x → z ≡ after
    → record { engine = z; answer = Ok y } ≡ answered e cause x after
done e r cause u x y after z g n ey ez = rw (← g, n, ey, ez)

-- a sound engine
pub sounded : {A : Type 0} (e : Engine) (rest : Result A Cause) (x : A) → cause_of e rest ≡ Ok x → (sound_of e ≡ true) × (rest ≡ Ok x)
unfolding cause_of
sounded e rest x g = passed-guard (sound_of e) Cause.Unsound rest x g

-- reports
pub reported_by : (e : Engine) (r : Report) (payload : List ℕ) (k : ℕ) (s x : Source) (o : Offer) (w : Framer) → k ≡ index_of r.source
    → s ≡ get_or e.sources k no_source → o ≡ offer_of s r → w ≡ add e.framer r.time o payload → x ≡ settled s r
    → record { count = e.count; sources = set e.sources k x; framer = w } ≡ reported e r payload
unfolding reported with_source source_at
reported_by e r payload k s x o w ek es eo ew ex = rw (← ek, ← es, ← eo, ← ew, ← ex)

pub source_is : (e : Engine) (source k : ℕ) → k ≡ index_of source → get_or e.sources k no_source ≡ source_at e source
unfolding source_at
source_is e source k ek = rw ek

pub report_judged : (e : Engine) (r : Report) (n k : ℕ) (c : Result Unit Cause) → k ≡ index_of r.source
    → c ≡ cause_of e (report_cause e.count e.framer.meter.size (get_or e.sources k no_source) r n)
    → c ≡ cause_of e (report_cause e.count e.framer.meter.size (source_at e r.source) r n)
report_judged e r n k c ek ec = ec ∙ rw (source_is e r.source k ek)

-- one source changed
pub stored_by : (f : Source → Source) (e : Engine) (source k : ℕ) (cause c : Result Unit Cause) (s x : Source) (o : Outcome Unit) → k ≡ index_of source
    → s ≡ get_or e.sources k no_source → x ≡ f s → c ≡ cause → o ≡ stored_of e k x c
    → o ≡ answered e cause tt (with_source e source (f (source_at e source)) e.framer)
unfolding stored_of with_source source_at
stored_by f e source k cause c s x o ek es ex ec eo = eo ∙ rw (← ek, ← es, ← ex, ← ec)

pub add_by : (e : Engine) (a : Addition) (k : ℕ) (r : Result ℕ Cause) (s : Source) → k ≡ index_of a.source → s ≡ get_or e.sources k no_source
    → r ≡ gives (cause_of e (add_cause e.count s a)) (free_at s.places) → (q : Result Unit Cause) → cause_of e (add_cause e.count s a) ≡ q
    → (x : Source) → x ≡ added_filter s a.filter
    → (is_ok r ≡ true → record { engine = record { count = e.count; sources = set e.sources k x; framer = e.framer }; answer = r } ≡ add_of e a)
    × (is_ok r ≡ false → record { engine = e; answer = r } ≡ add_of e a)
unfolding add_of source_at with_source
add_by e a k r s ek es er (Ok u) g x ex = (λ z. rw (er, ← ek, ← es, g, ← ex), λ z. absurd (true≢false (rw (er, g) at z)))
add_by e a k r s ek es er (Err c) g x ex = (λ z. absurd (false≢true (rw (er, g) at z)), λ z. rw (er, ← ek, ← es, g))

-- a tick, source by source
pub states_step : (n k : ℕ) (e x : Engine) (t : Time) → k < n → x ≡ tick_source e k t → states_of (n - k) k e t ≡ states_of (n - (k + 1)) (k + 1) x t
states_step n k e x t h ex =
    let m : n - k ≡ suc (n - (k + 1)) = omega arith in
    rw (m, ex, add-one k)

pub tick_quiet : (e : Engine) (k : ℕ) (t : Time) (s x : Source) → s ≡ get_or e.sources k no_source → x ≡ calmed s → tick_due s ≡ false
    → record { count = e.count; sources = set e.sources k x; framer = e.framer } ≡ tick_source e k t
unfolding tick_source
tick_quiet e k t s x es ex d = rw (← es, ← ex, d)

pub tick_shown : (e : Engine) (k : ℕ) (t : Time) (s x : Source) (o : Offer) (w : Framer) → s ≡ get_or e.sources k no_source → x ≡ calmed s
    → tick_due s ≡ true → o ≡ state_offer s → w ≡ add e.framer t o [] → record { count = e.count; sources = set e.sources k x; framer = w } ≡ tick_source e k t
unfolding tick_source
tick_shown e k t s x o w es ex d eo ew = rw (← es, ← ex, d, ← eo, ← ew)

pub ticked_by : (e x : Engine) (t : Time) (w : Framer) → x ≡ states_of e.count 0 e t → w ≡ passed x.framer t
    → record { count = x.count; sources = x.sources; framer = w } ≡ ticked e t
unfolding ticked
ticked_by e x t w ex ew = rw (← ex, ← ew)

-- the pairs that are left behind the first
pub named_next : (l : List ℕ) (k : ℕ) (sources : List Source) (x : Source) → 2 ≤ length l → x ≡ source_numbered (get_or l 0 0) (get_or l 1 0)
    → named k l sources ≡ named (k + 1) (take (length l - 2) (drop 2 l)) (set sources k x)
named_next [] k sources x h e = let z : ⊥ = omega arith in absurd z
named_next (a ∷ []) k sources x h e = let z : ⊥ = omega arith in absurd z
named_next (a ∷ (b ∷ l)) k sources x h e =
    let n : length (a ∷ (b ∷ l)) - 2 ≡ length l = omega arith in
    rw (n, take_all (length l) l (omega arith), add-one k, e)

pub left_length : (l : List ℕ) → 2 ≤ length l → length (take (length l - 2) (drop 2 l)) ≡ length l - 2
left_length [] h = let z : ⊥ = omega arith in absurd z
left_length (a ∷ []) h = let z : ⊥ = omega arith in absurd z
left_length (a ∷ (b ∷ l)) h =
    let n : length (a ∷ (b ∷ l)) - 2 ≡ length l = omega arith in
    rw (n, take_all (length l) l (omega arith))

-- what the soundness rule and an accepted setup give
pub few : (e : Engine) → sound_of e ≡ true → e.count ≤ 8
unfolding sound_of
few e s = leb-true e.count 8 (and_l (leb e.count 8) (sound_meter e.framer.meter) s)

pub few_pairs : (l : List ℕ) → sources_ok l ≡ true → length l ≤ 16
unfolding sources_ok
few_pairs l e = leb-true (length l) 16 (and_l (leb (length l) 16) (leb 2 (length l)) (and_l (leb (length l) 16 && leb 2 (length l)) (pairs_ok l) e))

pub short : (size room deadline : ℕ) → limits_ok size room deadline ≡ true → deadline < 65536
short size room deadline e = omega (arith, (limits size room deadline e).4)

-- setup
pub set-up : (e : Engine) (size room deadline : ℕ) (pairs : List ℕ) (u : Unit) → setup_cause e size room deadline pairs ≡ Ok u
    → (eqb e.count 0 ≡ true) × (limits_ok size room deadline ≡ true) × (sources_ok pairs ≡ true)
unfolding setup_cause
set-up e size room deadline pairs u g =
    let s = sounded e (guard (eqb e.count 0 && limits_ok size room deadline && sources_ok pairs) Cause.BadSetup (Ok tt)) u g in
    let f = (passed-guard (eqb e.count 0 && limits_ok size room deadline && sources_ok pairs) Cause.BadSetup (Ok tt) u s.1).0 in
    let h = and_l (eqb e.count 0 && limits_ok size room deadline) (sources_ok pairs) f in (
      and_l (eqb e.count 0) (limits_ok size room deadline) h,
      and_r (eqb e.count 0) (limits_ok size room deadline) h,
      and_r (eqb e.count 0 && limits_ok size room deadline) (sources_ok pairs) f,
    )

pub switched : (e : Engine) (size room deadline : ℕ) (u : Unit) → switch_cause e size room deadline ≡ Ok u → limits_ok size room deadline ≡ true
unfolding switch_cause
switched e size room deadline u g =
    let s = sounded e (guard (not (eqb e.count 0) && limits_ok size room deadline) Cause.BadSetup (Ok tt)) u g in
    and_r (not (eqb e.count 0)) (limits_ok size room deadline)
    (passed-guard (not (eqb e.count 0) && limits_ok size room deadline) Cause.BadSetup (Ok tt) u s.1).0

-- switch and offline
pub reset_by : (e : Engine) (size room : ℕ) (deadline : Millis) (sources : List Source) (w : Framer) → sources ≡ map reset_source e.sources
    → w ≡ empty_framer size room deadline → record { count = e.count; sources = sources; framer = w } ≡ reset_of e size room deadline
unfolding reset_of
reset_by e size room deadline sources w es ew = rw (es, ew)
