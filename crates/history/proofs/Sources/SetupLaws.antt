-- What an accepted setup leaves: a fresh engine whose book is setup's list of kinds and ids.
use Prim.Native.Nat.{ℕ, suc, ◌+◌, ◌/◌, ◌%◌, ◌≤◌}
use mathlib.Core.Path.{◌≡◌, refl, sym, ap, ◌∙◌}
use mathlib.Core.Bool.{true, not, ◌&&◌}
use mathlib.Core.List.{List, [], ◌∷◌, ◌++◌, map, map-append, append-nil}
use native.Mathlib.Omega.{arith}
use lib.ListN.{length, take, set, length-set}
use lib.Seq.{take-suc-set, append_snoc}
use lib.Dec.{leb, eqb}
use borrow.Author.Tests.{eqb-true, leb-true}
use Rattle.codec.specs.Choice.{bit}
use Rattle.codec.specs.declared.ident.Kind.TheVariants as Kind
use Rattle.codec.proofs.Opened.{never}
use Rattle.std.specs.Prelude.{Ok}
use Rattle.framer.specs.declared.cause.Cause.{Cause}
use Rattle.framer.proofs.FramerLaws.{passed-guard}
use Rattle.framer.specs.Meter.{limits_ok}
use Rattle.framer.specs.Framer.{empty_framer}
use Rattle.framer.proofs.KeptLaws.{kept_empty}
use Rattle.bus.specs.Source.{fresh_source}
use Rattle.bus.specs.declared.source.Source.{Source}
use Rattle.mirror.specs.Engine.{no_sources}
use Rattle.mirror.specs.Setup.{kind_numbered, source_numbered, pair_ok, named_again, pairs_ok, sources_ok, named, setup_cause, setup_of}
use Rattle.mirror.specs.Call.{Call, step_of}
use Rattle.mirror.specs.declared.engine.Engine.{Engine}
use Rattle.mirror.proofs.Kept.{sound_by}
use Rattle.history.specs.Account.{fresh_account, kind_named, accounts_for}
use Rattle.history.specs.History.{All}
use Rattle.history.proofs.Ground.TestLaws.{and3_yes}
use Rattle.history.proofs.Ground.ListLaws.{all_set, all_replicate}
use Rattle.history.proofs.Sources.SourceLaws.{account_of, HealthyS, fresh-account, fresh_healthy}
use Rattle.history.proofs.Sources.BookLaws.{book_of, Steady, accepted}

-- the sources named by the list of kinds and ids
named-length : (k : ℕ) (pairs : List ℕ) (ss : List Source) → length (named k pairs ss) ≡ length ss
named-length k [] ss = refl
named-length k (kind ∷ []) ss = refl
named-length k (kind ∷ (id ∷ rest)) ss = named-length (suc k) rest (set ss k (source_numbered kind id)) ∙ length-set ss k (source_numbered kind id)

numbered_healthy : (kind id : ℕ) → HealthyS (source_numbered kind id)
unfolding source_numbered
numbered_healthy kind id = fresh_healthy (kind_numbered kind) (id % 256) (omega arith)

named_healthy : (k : ℕ) (pairs : List ℕ) (ss : List Source) → All HealthyS ss → All HealthyS (named k pairs ss)
named_healthy k [] ss p = p
named_healthy k (kind ∷ []) ss p = p
named_healthy k (kind ∷ (id ∷ rest)) ss p = named_healthy (suc k) rest _ (all_set HealthyS ss k (source_numbered kind id) (numbered_healthy kind id) p)

numbered_account : (kind id : ℕ) → pair_ok kind id ≡ true → account_of (source_numbered kind id) ≡ fresh_account (kind_named kind) id
unfolding source_numbered kind_numbered kind_named pair_ok
numbered_account kind id e =
    let h : id ≤ 255 = leb-true id 255 (and3_yes (leb 1 kind) (leb kind 3) (leb id 255) e).2 in
    let x : id % 256 ≡ id = omega arith in
    rw x (fresh-account (kind_named kind) id)

named_book : (k : ℕ) (pairs : List ℕ) (ss : List Source) → pairs_ok pairs ≡ true → k + length pairs / 2 ≤ length ss
    → map account_of (take (k + length pairs / 2) (named k pairs ss)) ≡ map account_of (take k ss) ++ accounts_for pairs
named_book k [] ss e h = let x : k + 0 / 2 ≡ k = omega arith in rw x (sym (append-nil (map account_of (take k ss))))
named_book k (kind ∷ []) ss e h = never (ap bit e)
named_book k (kind ∷ (id ∷ rest)) ss e h =
    let a = and3_yes (pair_ok kind id) (not (named_again kind id rest)) (pairs_ok rest) e in
    let y : Source = source_numbered kind id in
    let m : k + suc (suc (length rest)) / 2 ≡ suc k + length rest / 2 = omega arith in
    let ih = named_book (suc k) rest (set ss k y) a.2 (rw (length-set ss k y) (omega arith)) in
    rw m (ih
    ∙ rw (take-suc-set ss k y (omega arith), map-append account_of (take k ss) (y ∷ []), numbered_account kind id a.0)
    (append_snoc (map account_of (take k ss)) (fresh_account (kind_named kind) id) (accounts_for rest)))

-- the sources before setup
none_healthy : All HealthyS no_sources
unfolding no_sources
none_healthy = all_replicate HealthyS 8 (fresh_source Kind.Can 0) (fresh_healthy Kind.Can 0 (omega arith))

none_eight : length no_sources ≡ 8
unfolding no_sources
none_eight = refl

abbrev set_engine : ℕ → ℕ → ℕ → List ℕ → Engine
set_engine size room deadline pairs =
    record { count = length pairs / 2; sources = named 0 pairs no_sources; framer = empty_framer size room (record { 0 = deadline }) }

module _ (e : Engine) (size room deadline : ℕ) (pairs : List ℕ) (z : (step_of e (Call.setup size room deadline pairs)).said.answer ≡ 0) where
  -- no cause stands against it
  setup_tests : (eqb e.count 0 ≡ true) × (limits_ok size room deadline ≡ true) × (sources_ok pairs ≡ true)
  unfolding setup_of setup_cause
  setup_tests =
      let y = (accepted e (set_engine size room deadline pairs) tt _ z).0 in
      and3_yes _ _ _ (passed-guard (eqb e.count 0 && limits_ok size room deadline && sources_ok pairs) Cause.BadSetup (Ok tt) tt y).0

  pub setup_empty : e.count ≡ 0
  setup_empty = eqb-true e.count 0 setup_tests.0

  pub setup_limits : limits_ok size room deadline ≡ true
  setup_limits = setup_tests.1

  setup_pairs : (length pairs ≤ 16) × (2 ≤ length pairs) × (pairs_ok pairs ≡ true)
  unfolding sources_ok
  setup_pairs =
      let p = and3_yes (leb (length pairs) 16) (leb 2 (length pairs)) (pairs_ok pairs) setup_tests.2 in
      (leb-true (length pairs) 16 p.0, leb-true 2 (length pairs) p.1, p.2)

  setup_engine : (step_of e (Call.setup size room deadline pairs)).engine ≡ set_engine size room deadline pairs
  unfolding setup_of setup_cause
  setup_engine = (accepted e (set_engine size room deadline pairs) tt _ z).1

  pub setup_framer : (step_of e (Call.setup size room deadline pairs)).engine.framer ≡ empty_framer size room (record { 0 = deadline })
  setup_framer = ap (λ (x : Engine). x.framer) setup_engine

  pub setup_book : book_of (step_of e (Call.setup size room deadline pairs)).engine ≡ accounts_for pairs
  unfolding book_of
  setup_book =
      let h = setup_pairs.0 in
      let x : 0 + length pairs / 2 ≡ length pairs / 2 = omega arith in
      ap book_of setup_engine ∙ rw x at (named_book 0 pairs no_sources setup_pairs.2 (rw none_eight (omega arith)))

  pub setup_steady : Steady (step_of e (Call.setup size room deadline pairs)).engine
  unfolding empty_framer
  setup_steady =
      let h = setup_pairs in
      rw setup_engine (record {
        sound = sound_by (length pairs / 2) (named 0 pairs no_sources) (empty_framer size room (record { 0 = deadline })) (omega arith)
            (kept_empty size room (record { 0 = deadline }) setup_limits);
        some = omega arith;
        eight = named-length 0 pairs no_sources ∙ none_eight;
        healthy = named_healthy 0 pairs no_sources none_healthy;
      })
