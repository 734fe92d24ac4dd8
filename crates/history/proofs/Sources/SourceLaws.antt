-- One source of the engine and its account in the ledger: what setup, starting, stopping, filters, state updates and ticks do to both.
use Prim.Native.Nat.{ℕ, ◌+◌, ◌*◌, ◌/◌, ◌%◌, ◌≤◌, ◌<◌, min}
use mathlib.Core.Path.{◌≡◌, refl, sym, subst}
use mathlib.Core.Bool.{Bool, true, false}
use native.Mathlib.Omega.{arith}
use lib.ListN.{set}
use lib.Dec.{leb, ltb, eqb}
use borrow.Author.Tests.{leb-true, eqb-true, eq-eqb}
use Rattle.codec.specs.Choice.{pick, bit}
use Rattle.codec.specs.Ident.{network_type}
use Rattle.codec.specs.Item.{shown_ok, lin_zero}
use Rattle.codec.specs.declared.time.Time.{Time}
use Rattle.codec.specs.declared.ident.Kind.{Kind}
use Rattle.codec.proofs.BoolLaws.{and_l, and_r}
use Rattle.bus.specs.Filter.{same_kind}
use Rattle.bus.specs.Source.{fresh_source, started_source, stopped_source, free_at, with_places, added_filter, removed_filter, due, tick_due, state_offer, calmed}
use Rattle.bus.specs.Update.{counter_bits, can_byte, can_update, lin_update, flexray_update, updated}
use Rattle.bus.specs.declared.source.Source.{Source}
use Rattle.bus.specs.declared.update.Update.{Update}
use Rattle.bus.specs.declared.filter.Filter.{Filter}
use Rattle.history.specs.Meaning.{can_state}
use Rattle.history.specs.Account.{Account, differs, calls_for, state_event, ticked_account, fresh_account, started_account, stopped_account, updated_account}
use Rattle.history.proofs.Ground.Machine.{offer_in}

-- the source without its places
unfoldable pub account_of : Source → Account
account_of s = record {
  kind = s.kind;
  network = s.network;
  started = s.started;
  state = s.state;
  known = s.known;
  shown = s.shown;
  heard = s.heard;
}

-- the bits of a state byte that are bound to a frame are clear: the four low ones of LIN and FlexRay; CAN has none
abbrev pub bound_clear : Kind → ℕ → Bool
bound_clear Kind.Can byte = true
bound_clear Kind.Lin byte = eqb (byte % 16) 0
bound_clear Kind.FlexRay byte = eqb (byte % 16) 0

-- a byte that a source of the kind may have between calls: bit 7 clear, and bits 5 and 4 where LIN has none; frame-bound bits clear
pub record Healthy (kind : Kind) (net byte : ℕ) : Type 0 where
  pub network : net < 256
  pub state : byte < 128
  pub shown : shown_ok kind byte ≡ true
  pub bound : bound_clear kind byte ≡ true

abbrev pub HealthyS : Source → Type 0
HealthyS s = Healthy s.kind s.network s.state

abbrev pub HealthyA : Account → Type 0
HealthyA a = Healthy a.kind a.network a.state

-- kinds are told apart by their numbers
pub kind_same : (a b : Kind) → same_kind a b ≡ true → a ≡ b
unfolding same_kind
kind_same a b e = go a b (eqb-true (network_type a) (network_type b) e)
  where
    go : (a b : Kind) → network_type a ≡ network_type b → a ≡ b
    go Kind.Can Kind.Can e = refl
    go Kind.Can Kind.Lin e = let z : ⊥ = omega arith in absurd z
    go Kind.Can Kind.FlexRay e = let z : ⊥ = omega arith in absurd z
    go Kind.Lin Kind.Can e = let z : ⊥ = omega arith in absurd z
    go Kind.Lin Kind.Lin e = refl
    go Kind.Lin Kind.FlexRay e = let z : ⊥ = omega arith in absurd z
    go Kind.FlexRay Kind.Can e = let z : ⊥ = omega arith in absurd z
    go Kind.FlexRay Kind.Lin e = let z : ⊥ = omega arith in absurd z
    go Kind.FlexRay Kind.FlexRay e = refl

-- what the kind asks looks at bits 5 and 4 alone
pub shown_same : (k : Kind) (m n : ℕ) → m / 16 % 4 ≡ n / 16 % 4 → shown_ok k m ≡ true → shown_ok k n ≡ true
unfolding lin_zero
shown_same Kind.Can m n h e = refl
shown_same Kind.Lin m n h e = rw (← h) e
shown_same Kind.FlexRay m n h e = refl

-- what is clear in one byte and stays so is clear in the other
pub bound_same : (k : Kind) (m n : ℕ) → (m % 16 ≡ 0 → n % 16 ≡ 0) → bound_clear k m ≡ true → bound_clear k n ≡ true
bound_same Kind.Can m n h e = refl
bound_same Kind.Lin m n h e = eq-eqb (n % 16) 0 (h (eqb-true (m % 16) 0 e))
bound_same Kind.FlexRay m n h e = eq-eqb (n % 16) 0 (h (eqb-true (m % 16) 0 e))

-- setup, starting and stopping
pub fresh-account : (kind : Kind) (network : ℕ) → account_of (fresh_source kind network) ≡ fresh_account kind network
unfolding account_of fresh_source fresh_account
fresh-account kind network = refl

zero_shown : (k : Kind) → shown_ok k 0 ≡ true
unfolding lin_zero
zero_shown Kind.Can = refl
zero_shown Kind.Lin = refl
zero_shown Kind.FlexRay = refl

zero_bound : (k : Kind) → bound_clear k 0 ≡ true
zero_bound Kind.Can = refl
zero_bound Kind.Lin = refl
zero_bound Kind.FlexRay = refl

pub fresh_healthy : (kind : Kind) (network : ℕ) → network < 256 → HealthyS (fresh_source kind network)
unfolding fresh_source
fresh_healthy kind network h = record { network = h; state = omega arith; shown = zero_shown kind; bound = zero_bound kind }

pub started-account : (s : Source) → account_of (started_source s) ≡ started_account (account_of s)
unfolding account_of started_source started_account
started-account s = refl

pub started_healthy : (s : Source) → HealthyS s → HealthyS (started_source s)
unfolding started_source
started_healthy s k = record { network = k.network; state = omega arith; shown = zero_shown s.kind; bound = zero_bound s.kind }

pub stopped-account : (s : Source) → account_of (stopped_source s) ≡ stopped_account (account_of s)
unfolding account_of stopped_source stopped_account
stopped-account s = refl

pub stopped_healthy : (s : Source) → HealthyS s → HealthyS (stopped_source s)
unfolding stopped_source
stopped_healthy s k = k

-- filters are no part of the account
pub added_account : (s : Source) (f : Filter) → account_of (added_filter s f) ≡ account_of s
unfolding account_of added_filter
added_account s f = go (ltb (free_at s.places) 8)
  where
    go : (b : Bool) → account_of (pick b (with_places s (set s.places (free_at s.places) f)) s) ≡ account_of s
    go true = refl
    go false = refl

pub removed_account : (s : Source) (number : ℕ) → account_of (removed_filter s number) ≡ account_of s
unfolding account_of removed_filter
removed_account s number = go (ltb number 8)
  where
    go : (b : Bool) → account_of (pick b (with_places s (set s.places number Filter.Free)) s) ≡ account_of s
    go true = refl
    go false = refl

-- the account says whether the source is healthy
pub healthy_by : (s x : Source) → account_of x ≡ account_of s → HealthyS s → HealthyS x
unfolding account_of
healthy_by s x e k = subst (λ (a : Account). HealthyA a) (sym e) k

-- state updates: the byte that the ledger writes, which the kind may show
pub record Brings (byte : ℕ) (u : Update) : Type 0 where
  pub is : u.state ≡ byte
  pub small : u.state < 128
  pub shown : shown_ok u.kind u.state ≡ true
  pub bound : bound_clear u.kind u.state ≡ true

pub updated-account : (s : Source) (u : Update) → account_of (updated s u) ≡ updated_account u.state (account_of s)
unfolding account_of updated updated_account
updated-account s u = refl

pub updated_healthy : (byte : ℕ) (s : Source) (u : Update) → Brings byte u → same_kind s.kind u.kind ≡ true → HealthyS s → HealthyS (updated s u)
unfolding updated
updated_healthy byte s u g e k =
    let q = kind_same s.kind u.kind e in
    record { network = k.network; state = g.small; shown = rw q g.shown; bound = rw q g.bound }

pub brings_can : (source : ℕ) (online passive busOff : Bool) (counter : ℕ)
    → Brings (can_state online passive busOff counter) (can_update source online passive busOff counter)
unfolding can_update can_byte counter_bits can_state
brings_can source online passive busOff counter = record { is = refl; small = go online passive busOff; shown = refl; bound = refl }
  where
    go : (o p f : Bool) → pick {A = ℕ} o (64 + bit p * 32 + bit f * 16 + min (counter / 8) 15) 0 < 128
    go true true true = omega arith
    go true true false = omega arith
    go true false true = omega arith
    go true false false = omega arith
    go false p f = omega arith

pub brings_lin : (source : ℕ) (online : Bool) → Brings (bit online * 64) (lin_update source online)
unfolding lin_update lin_zero
brings_lin source true = record { is = refl; small = omega arith; shown = refl; bound = refl }
brings_lin source false = record { is = refl; small = omega arith; shown = refl; bound = refl }

pub brings_flexray : (source : ℕ) (online : Bool) (bits : ℕ) → (flexray_update source online bits).good ≡ true
    → Brings (bit online * 64 + bits) (flexray_update source online bits)
unfolding flexray_update
brings_flexray source online bits e =
    let h : bits ≤ 63 = leb-true bits 63 (and_l (leb bits 63) (eqb (bits % 16) 0) e) in
    let d : bits % 16 ≡ 0 = eqb-true (bits % 16) 0 (and_r (leb bits 63) (eqb (bits % 16) 0) e) in
    let x : bits % 64 ≡ bits = omega arith in
    record { is = rw x; small = go online; shown = refl; bound = clear online d }
  where
    go : (o : Bool) → bit o * 64 + bits % 64 < 128
    go true = omega arith
    go false = omega arith

    clear : (o : Bool) → bits % 16 ≡ 0 → eqb ((bit o * 64 + bits % 64) % 16) 0 ≡ true
    clear true d = eq-eqb ((1 * 64 + bits % 64) % 16) 0 (omega arith)
    clear false d = eq-eqb ((0 * 64 + bits % 64) % 16) 0 (omega arith)

-- a tick: what is due is what the account calls for
pub due_calls : (s : Source) → tick_due s ≡ calls_for (account_of s)
unfolding tick_due due calls_for differs account_of
due_calls s = refl

pub calmed_account : (s : Source) → account_of (calmed s) ≡ ticked_account (account_of s)
unfolding calmed tick_due due account_of ticked_account calls_for differs
calmed_account s = refl

pub calmed_healthy : (s : Source) → HealthyS s → HealthyS (calmed s)
unfolding calmed
calmed_healthy s k = k

pub state-offer : (t : Time) (s : Source) → state_offer s ≡ offer_in (state_event t (account_of s))
unfolding state_offer offer_in state_event account_of
state-offer t s = refl
