-- The loop of a tick: source by source, a state-only item where one is called for.
use Prim.Native.Nat.{ℕ, zero, suc, ◌+◌, ◌≤◌, ◌<◌}
use mathlib.Core.Path.{◌≡◌, refl, sym, ap, ◌∙◌}
use mathlib.Core.Bool.{Bool, true, false}
use mathlib.Core.List.{List, [], ◌∷◌, ◌++◌, map, map-append}
use native.Mathlib.Omega.{arith}
use lib.ListN.{length, take, drop, get_or, length-set, length-map, take-append-drop}
use lib.Seq.{length-take-le, take_at, take-suc-set, drop-cons, drop-set-lt, append_snoc}
use Rattle.codec.specs.Choice.{pick}
use Rattle.codec.specs.Time.{time_ok}
use Rattle.codec.specs.declared.time.Time.{Time}
use Rattle.framer.specs.Framer.{add, passed}
use Rattle.framer.specs.declared.framer.Framer.{Framer}
use Rattle.framer.specs.declared.offer.Offer.{Offer}
use Rattle.bus.specs.Source.{state_offer, calmed}
use Rattle.bus.specs.declared.source.Source.{Source}
use Rattle.mirror.specs.Engine.{no_source}
use Rattle.mirror.specs.Tick.{tick_source, states_of, ticked}
use Rattle.mirror.specs.declared.engine.Engine.{Engine}
use Rattle.mirror.proofs.MirrorLaws.{few}
use Rattle.history.specs.Account.{Account, Event, calls_for, state_event, state_events, ticked_account}
use Rattle.history.specs.Ledger.{Limits}
use Rattle.history.specs.Ledger as Rules
use Rattle.history.specs.History.{All}
use Rattle.history.proofs.Ground.Machine.{run_w, run_append, FitOp}
use Rattle.history.proofs.Ground.ListLaws.{all_get, all_set}
use Rattle.history.proofs.Sources.SourceLaws.{account_of, HealthyS, HealthyA, due_calls, calmed_account, calmed_healthy, state-offer}
use Rattle.history.proofs.Sources.EventLaws.{state_fit}
use Rattle.history.proofs.Sources.BookLaws.{book_of, Steady, no_healthy}

module _ (t : Time) where
  -- one source is calmed, and the others stay; if it is due it makes one state-only item
  tick_length : (e : Engine) (k : ℕ) → length (tick_source e k t).sources ≡ length e.sources
  unfolding tick_source
  tick_length e k = length-set e.sources k _

  tick_rest : (e : Engine) (k : ℕ) → drop (suc k) (tick_source e k t).sources ≡ drop (suc k) e.sources
  unfolding tick_source
  tick_rest e k = drop-set-lt (suc k) e.sources k _ (omega arith)

  abbrev shownBy : Source → List Event
  shownBy x = pick (calls_for (account_of x)) (state_event t (account_of x) ∷ []) []

  tick_framer : (e : Engine) (k : ℕ) → (tick_source e k t).framer ≡ run_w e.framer (map Rules.event (shownBy (get_or e.sources k no_source)))
  unfolding tick_source state_event
  tick_framer e k = let x = get_or e.sources k no_source in rw (due_calls x) (go x (calls_for (account_of x)))
    where
      go : (x : Source) (b : Bool)
          → pick b (add e.framer t (state_offer x) []) e.framer ≡ run_w e.framer (map Rules.event (pick b (state_event t (account_of x) ∷ []) []))
      go x true = ap (λ (o : Offer). add e.framer t o []) (state-offer t x)
      go x false = refl

  -- n sources from number k on
  pub states_count : (n k : ℕ) (e : Engine) → (states_of n k e t).count ≡ e.count
  unfolding tick_source
  states_count zero k e = refl
  states_count (suc n) k e = states_count n (suc k) (tick_source e k t)

  pub states_length : (n k : ℕ) (e : Engine) → length (states_of n k e t).sources ≡ length e.sources
  states_length zero k e = refl
  states_length (suc n) k e = states_length n (suc k) (tick_source e k t) ∙ tick_length e k

  pub states_healthy : (n k : ℕ) (e : Engine) → All HealthyS e.sources → All HealthyS (states_of n k e t).sources
  unfolding tick_source
  states_healthy zero k e p = p
  states_healthy (suc n) k e p =
      states_healthy n (suc k) (tick_source e k t)
      (all_set HealthyS e.sources k _ (calmed_healthy _ (all_get HealthyS e.sources k no_source no_healthy p)) p)

  states_sources : (n k : ℕ) (e : Engine) → k + n ≤ length e.sources
      → (states_of n k e t).sources ≡ take k e.sources ++ (map calmed (take n (drop k e.sources)) ++ drop n (drop k e.sources))
  unfolding tick_source
  states_sources zero k e h = sym (take-append-drop k e.sources)
  states_sources (suc n) k e h =
      let ss = e.sources in
      let x : Source = calmed (get_or ss k no_source) in
      let g : k < length ss = omega arith in
      states_sources n (suc k) (tick_source e k t) (rw (length-set ss k x) (omega arith))
      ∙ rw (take-suc-set ss k x g, drop-set-lt (suc k) ss k x (omega arith), drop-cons ss k no_source g) (append_snoc (take k ss) x _)

  states_framer : (n k : ℕ) (e : Engine) → k + n ≤ length e.sources
      → (states_of n k e t).framer ≡ run_w e.framer (map Rules.event (state_events t (map account_of (take n (drop k e.sources)))))
  states_framer zero k e h = refl
  states_framer (suc n) k e h =
      let x : Source = get_or e.sources k no_source in
      let g : k < length e.sources = omega arith in
      let rest : List Event = state_events t (map account_of (take n (drop (suc k) e.sources))) in
      states_framer n (suc k) (tick_source e k t) (rw (tick_length e k) (omega arith))
      ∙ rw (tick_framer e k, tick_rest e k, drop-cons e.sources k no_source g, map-append Rules.event (shownBy x) rest)
      (sym (run_append e.framer (map Rules.event (shownBy x)) (map Rules.event rest)))

  pub states_fit : (c : Limits) (book : List Account) → All HealthyA book → time_ok t ≡ true → 32 ≤ c.size → All (FitOp c) (map Rules.event (state_events t book))
  states_fit c [] p e h = tt
  states_fit c (a ∷ book) p e h = go (calls_for a) (states_fit c book p.1 e h)
    where
      go : (b : Bool) → All (FitOp c) (map Rules.event (state_events t book))
          → All (FitOp c) (map Rules.event (pick b (state_event t a ∷ []) [] ++ state_events t book))
      go true r = (state_fit c t a p.0 e h, r)
      go false r = r

-- all sources of a book, and then the deadline
calmed_accounts : (xs : List Source) → map account_of (map calmed xs) ≡ map ticked_account (map account_of xs)
calmed_accounts [] = refl
calmed_accounts (x ∷ xs) = λ i. calmed_account x i ∷ calmed_accounts xs i

module _ (e : Engine) (s : Steady e) (t : Time) where
  enough : e.count ≤ length e.sources
  enough = rw s.eight (few e s.sound)

  pub ticked_book : book_of (ticked e t) ≡ map ticked_account (book_of e)
  unfolding book_of ticked
  ticked_book =
      let xs : List Source = take e.count e.sources in
      let n : length (map calmed xs) ≡ e.count = length-map xs calmed ∙ length-take-le e.count e.sources enough in
      let m = states_sources t e.count 0 e (omega (arith, enough)) in
      rw (states_count t e.count 0 e, m, take_at (map calmed xs) (drop e.count e.sources) e.count n) (calmed_accounts xs)

  pub ticked_framer : (ticked e t).framer ≡ run_w e.framer (map Rules.event (state_events t (book_of e)) ++ (Rules.deadline t ∷ []))
  unfolding book_of ticked
  ticked_framer =
      ap (λ (w : Framer). passed w t) (states_framer t e.count 0 e (omega (arith, enough)))
      ∙ sym (run_append e.framer (map Rules.event (state_events t (map account_of (take e.count e.sources)))) (Rules.deadline t ∷ []))
