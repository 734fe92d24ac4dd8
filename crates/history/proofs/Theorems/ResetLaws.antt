-- What offline and switch leave: the same sources, as setup made them, and an empty framer. No other call changes a source's kind
-- or id.
use Prim.Native.Nat.{ℕ, zero, suc}
use mathlib.Core.Path.{◌≡◌, refl, ◌∙◌, ap}
use mathlib.Core.Bool.{true}
use mathlib.Core.List.{List, [], ◌∷◌, map}
use lib.ListN.{take, length-map}
use lib.Seq.{map-set_same}
use Rattle.codec.specs.declared.ident.Kind.TheVariants as Kind
use Rattle.framer.specs.Meter.{limits_ok}
use Rattle.framer.specs.Framer.{empty_framer}
use Rattle.bus.specs.Source.{reset_source, fresh_source}
use Rattle.bus.specs.declared.source.Source.{Source}
use Rattle.mirror.specs.Setup.{reset_of}
use Rattle.mirror.specs.declared.engine.Engine.{Engine}
use Rattle.mirror.proofs.MirrorLaws.{few}
use Rattle.mirror.proofs.Kept.{sound_by}
use Rattle.framer.proofs.KeptLaws.{kept_empty}
use Rattle.history.specs.Meaning.{Meaning, starts, stops, updates, reports, ticks, takes, fails, switches, drops, nothing, Bound}
use Rattle.history.specs.Account.{Account, fresh_account, kind_named, accounts_for, account_at, changed, started_account, stopped_account, updated_account, reported_account, ticked_account, accounts_of}
use Rattle.history.specs.Ledger.{Limits}
use Rattle.history.specs.History.{All}
use Rattle.history.proofs.Sources.SourceLaws.{account_of, HealthyS, fresh_healthy}
use Rattle.history.proofs.Sources.BookLaws.{book_of, Steady}
use Rattle.history.proofs.Framer.SimLaws.{empty_tied}
use Rattle.history.proofs.Theorems.Theorem.{Begun}

-- an account as setup made it
unfoldable pub renewed : Account → Account
renewed a = fresh_account a.kind a.network

-- no call changes the kind or the id of a source
module _ (book : List Account) where
  one_stays : (source : ℕ) (f : Account → Account) → ((a : Account) → renewed (f a) ≡ renewed a) → map renewed (changed book source f) ≡ map renewed book
  unfolding changed account_at
  one_stays source f e = map-set_same renewed book source _ (fresh_account Kind.Can 0) (e _)

  report_stays : (source : ℕ) (b : Bound) → map renewed (changed book source (reported_account b)) ≡ map renewed book
  unfolding renewed reported_account
  report_stays source b = one_stays source (reported_account b) (λ a. refl)

  update_stays : (source byte : ℕ) → map renewed (changed book source (updated_account byte)) ≡ map renewed book
  unfolding renewed updated_account
  update_stays source byte = one_stays source (updated_account byte) (λ a. refl)

each_stays : (f : Account → Account) → ((a : Account) → renewed (f a) ≡ renewed a) → (book : List Account) → map renewed (map f book) ≡ map renewed book
each_stays f e [] = refl
each_stays f e (a ∷ book) = rw (e a, each_stays f e book)

pub book_stays : (book : List Account) (m : Meaning) → map renewed (accounts_of book m) ≡ map renewed book
unfolding renewed started_account stopped_account ticked_account
book_stays book (starts source) = one_stays book source started_account (λ a. refl)
book_stays book (stops source) = one_stays book source stopped_account (λ a. refl)
book_stays book (updates source byte) = update_stays book source byte
book_stays book (reports source b t ident carries payload) = report_stays book source b
book_stays book (ticks t) = each_stays ticked_account (λ a. refl) book
book_stays book takes = refl
book_stays book fails = refl
book_stays book (switches size room deadline) = refl
book_stays book drops = refl
book_stays book nothing = refl

pub renewed_twice : (book : List Account) → map renewed (map renewed book) ≡ map renewed book
unfolding renewed fresh_account
renewed_twice book = each_stays renewed (λ a. refl) book

pub renewed_fresh : (pairs : List ℕ) → map renewed (accounts_for pairs) ≡ accounts_for pairs
unfolding renewed fresh_account
renewed_fresh [] = refl
renewed_fresh (kind ∷ []) = refl
renewed_fresh (kind ∷ (id ∷ rest)) = ap (λ (x : List Account). fresh_account (kind_named kind) id ∷ x) (renewed_fresh rest)

-- the engine that they leave
reset_accounts : (xs : List Source) (n : ℕ) → map account_of (take n (map reset_source xs)) ≡ map renewed (map account_of (take n xs))
unfolding reset_source renewed account_of fresh_source fresh_account
reset_accounts xs zero = refl
reset_accounts [] (suc n) = refl
reset_accounts (x ∷ xs) (suc n) = ap (λ (r : List Account). renewed (account_of x) ∷ r) (reset_accounts xs n)

reset_healthy : (xs : List Source) → All HealthyS xs → All HealthyS (map reset_source xs)
unfolding reset_source
reset_healthy [] p = tt
reset_healthy (x ∷ xs) p = (fresh_healthy x.kind x.network p.0.network, reset_healthy xs p.1)

module _ (c : Limits) (e : Engine) (s : Steady e) (h : limits_ok c.size c.room c.deadline ≡ true) where
  abbrev after : Engine
  after = reset_of e c.size c.room (record { 0 = c.deadline })

  after_steady : Steady after
  unfolding reset_of empty_framer
  after_steady = record {
    sound = sound_by e.count (map reset_source e.sources) (empty_framer c.size c.room (record { 0 = c.deadline })) (few e s.sound)
        (kept_empty c.size c.room (record { 0 = c.deadline }) h);
    some = s.some;
    eight = length-map e.sources reset_source ∙ s.eight;
    healthy = reset_healthy e.sources s.healthy;
  }

  pub after_begun : Begun c (map renewed (book_of e)) after
  unfolding reset_of book_of
  after_begun = record { steady = after_steady; tied = empty_tied c h; accounts = reset_accounts e.sources e.count }
