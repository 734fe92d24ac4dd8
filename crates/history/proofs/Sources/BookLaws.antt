-- An engine after setup, its sources as the accounts of the ledger, and what an answer of 0 says.
use Prim.Native.Nat.{ℕ, ◌≤◌, ◌<◌}
use mathlib.Core.Path.{◌≡◌, refl, ap, ◌∙◌}
use mathlib.Core.Bool.{Bool, true, false}
use mathlib.Core.List.{List, [], ◌∷◌, map}
use native.Mathlib.Omega.{arith}
use lib.ListN.{length, take, get_or-map}
use lib.Seq.{take-set-lt, get_or-take, set-get_or}
use borrow.Author.Tests.{lt-ltb}
use Rattle.codec.specs.declared.ident.Kind.TheVariants as Kind
use Rattle.framer.specs.declared.framer.Framer.{Framer}
use Rattle.bus.specs.declared.source.Source.{Source}
use Rattle.std.specs.Prelude.{Result, Ok, Err}
use Rattle.framer.specs.Cause.{number_of, answer_of, guard}
use Rattle.framer.specs.declared.cause.Cause.{Cause}
use Rattle.framer.proofs.FramerLaws.{caused}
use Rattle.mirror.specs.Engine.{no_source, sound_of, cause_of, answered, index_of, source_at, with_source}
use Rattle.mirror.specs.declared.engine.Engine.{Engine}
use Rattle.mirror.proofs.MirrorLaws.{few}
use Rattle.history.specs.Account.{Account, fresh_account, account_at, changed}
use Rattle.history.specs.History.{All}
use Rattle.history.proofs.Ground.TestLaws.{wrong}
use Rattle.history.proofs.Ground.ListLaws.{all_get, all_take, map-set}
use Rattle.history.proofs.Sources.SourceLaws.{account_of, HealthyS, HealthyA}

-- the accounts of the sources that there are
unfoldable pub book_of : Engine → List Account
book_of e = map account_of (take e.count e.sources)

-- what setup establishes and every call keeps
pub record Steady (e : Engine) : Type 0 where
  pub sound : sound_of e ≡ true
  pub some : 1 ≤ e.count
  pub eight : length e.sources ≡ 8
  pub healthy : All HealthyS e.sources

-- an answer of 0: no cause stands against the call, and what it was to do is done
pub accepted : {A : Type 0} (e after : Engine) (x : A) (r : Result Unit Cause) → answer_of (answered e (cause_of e r) x after).answer ≡ 0
    → (r ≡ Ok tt) × ((answered e (cause_of e r) x after).engine ≡ after)
unfolding cause_of
accepted {A} e after x r z = go (sound_of e) r refl refl
  where
    go : (a : Bool) (q : Result Unit Cause) → sound_of e ≡ a → r ≡ q → (r ≡ Ok tt) × ((answered e (guard (sound_of e) Cause.Unsound r) x after).engine ≡ after)
    go false q p y = wrong 18 (rw p at z)
    go true (Ok u) p y = (y, rw (p, y))
    go true (Err c) p y = let n : number_of c ≡ 0 = rw (p, y) at z in let k : ⊥ = omega (arith, caused c) in absurd k

-- where there is no source
no_account : account_of no_source ≡ fresh_account Kind.Can 0
unfolding account_of fresh_account
no_account = refl

pub no_healthy : HealthyS no_source
no_healthy = record { network = omega arith; state = omega arith; shown = refl; bound = refl }

-- a source with a number below the count, its account, and the book with it changed
module _ (e : Engine) (s : Steady e) where
  index_is : (k : ℕ) → k < e.count → index_of k ≡ k
  unfolding index_of
  index_is k h = rw (lt-ltb k 8 (omega (arith, few e s.sound)))

  pub healthy_at : (k : ℕ) → HealthyS (source_at e k)
  unfolding source_at
  healthy_at k = all_get HealthyS e.sources (index_of k) no_source no_healthy s.healthy

  pub account-at : (k : ℕ) → k < e.count → account_at (book_of e) k ≡ account_of (source_at e k)
  unfolding account_at book_of source_at
  account-at k h =
      rw (index_is k h, ← no_account) (get_or-map account_of (take e.count e.sources) k no_source ∙ ap account_of (get_or-take e.count e.sources k no_source h))

  pub changed_book : (k : ℕ) (x : Source) (w : Framer) (f : Account → Account) → k < e.count → account_of x ≡ f (account_of (source_at e k))
      → book_of (with_source e k x w) ≡ changed (book_of e) k f
  unfolding book_of with_source changed
  changed_book k x w f h a =
      rw (index_is k h, account-at k h, ← a, take-set-lt e.count e.sources k x h) (map-set account_of (take e.count e.sources) k x)

-- a change that is none
pub same_book : (book : List Account) (k : ℕ) → changed book k (λ a. a) ≡ book
unfolding changed account_at
same_book book k = set-get_or book k (fresh_account Kind.Can 0)

-- healthy sources have healthy accounts
healthy_accounts : (xs : List Source) → All HealthyS xs → All HealthyA (map account_of xs)
unfolding account_of
healthy_accounts [] p = tt
healthy_accounts (x ∷ xs) p = (p.0, healthy_accounts xs p.1)

pub healthy_book : (e : Engine) → Steady e → All HealthyA (book_of e)
unfolding book_of
healthy_book e s = healthy_accounts (take e.count e.sources) (all_take HealthyS e.count e.sources s.healthy)
