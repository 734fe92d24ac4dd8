-- An accepted report: what its masks do to the state byte, and what it leaves of its source.
use Prim.Native.Nat.{ℕ, ◌+◌, ◌*◌, ◌/◌, ◌%◌, ◌≤◌, ◌<◌}
use mathlib.Core.Path.{◌≡◌, refl, sym, ap, ◌∙◌}
use mathlib.Core.Bool.{Bool, true, false, not, ◌||◌}
use native.Mathlib.Omega.{arith}
use lib.Dec.{ltb}
use lib.Bits.{bit_and, bit_or, or_zero_r}
use Rattle.std.specs.Prelude.{Some}
use Rattle.codec.specs.Choice.{pick}
use Rattle.codec.proofs.BoolLaws.{or_false, or_true}
use Rattle.bus.specs.Source.{due}
use Rattle.bus.specs.Report.{noted, offer_of, settled}
use Rattle.bus.specs.declared.source.Source.{Source}
use Rattle.bus.specs.declared.report.Report.{Report}
use Rattle.history.specs.Meaning.{Bound, none, errors, conflict, aggregated}
use Rattle.history.specs.Account.{written, cleared, informs, insists, differs, shows_by, reported_account}
use Rattle.history.proofs.Ground.BitLaws.{keep_high, keep_upper, keep_outer, keep_all, raise_errors, raise_conflict, raise_aggregated}
use Rattle.history.proofs.Sources.SourceLaws.{account_of, HealthyS, shown_same, bound_same}

-- the masks of a report are those of its frame-bound bits
pub record Bind (b : Bound) (kept raised : ℕ) (carries : Bool) : Type 0 where
  pub notes : (n : ℕ) → n < 128 → bit_or (bit_and n kept) raised ≡ written b n
  pub clears : (n : ℕ) → n < 128 → bit_and n kept ≡ cleared b n
  pub informs : ltb kept 255 ≡ informs b
  pub insists : (ltb 0 raised || not carries) ≡ insists b
  pub small : (n : ℕ) → n < 128 → written b n < 128
  pub smaller : (n : ℕ) → n < 128 → cleared b n < 128
  pub stays : (n : ℕ) → written b n / 16 % 4 ≡ n / 16 % 4
  pub cleans : (n : ℕ) → cleared b n / 16 % 4 ≡ n / 16 % 4
  pub calms : (n : ℕ) → n % 16 ≡ 0 → cleared b (written b n) % 16 ≡ 0

pub bind_none : Bind none 255 0 true
bind_none = record {
  notes = λ n h. or_zero_r (bit_and n 255) ∙ keep_all n (omega arith);
  clears = λ n h. keep_all n (omega arith);
  informs = refl;
  insists = refl;
  small = λ n h. h;
  smaller = λ n h. h;
  stays = λ n. refl;
  cleans = λ n. refl;
  calms = λ n h. h;
}

pub bind_errors : (bits : ℕ) → bits < 16 → Bind (errors bits) 240 bits true
bind_errors bits g = record {
  notes = λ n h. rw (keep_high n (omega arith)) (raise_errors n bits g);
  clears = λ n h. keep_high n (omega arith);
  informs = refl;
  insists = or_false (ltb 0 bits);
  small = λ n h. omega arith;
  smaller = λ n h. omega arith;
  stays = λ n. omega arith;
  cleans = λ n. omega arith;
  calms = λ n h. omega arith;
}

-- a byte whose low bits were clear is itself again
even_back : (n : ℕ) → n % 2 ≡ 0 → (n / 2 * 2 + 1) / 2 * 2 ≡ n
even_back n h = omega arith

pub bind_conflict : Bind conflict 254 1 false
bind_conflict = record {
  notes = λ n h. rw (keep_upper n (omega arith)) (raise_conflict n);
  clears = λ n h. keep_upper n (omega arith);
  informs = refl;
  insists = refl;
  small = λ n h. omega arith;
  smaller = λ n h. omega arith;
  stays = λ n. omega arith;
  cleans = λ n. omega arith;
  calms = λ n h. let q : (n / 2 * 2 + 1) / 2 * 2 ≡ n = even_back n (omega arith) in rw q h;
}

calm_aggregated : (bits : ℕ) → bits < 16 → bits % 2 ≡ 0 → (n : ℕ) → n % 16 ≡ 0 → cleared (aggregated bits) (written (aggregated bits) n) % 16 ≡ 0
calm_aggregated bits g e n h =
    let w : n / 16 * 16 + n % 2 + bits ≡ n + bits = omega arith in
    let q : (n + bits) / 16 ≡ n / 16 = omega arith in
    let r : (n + bits) % 2 ≡ 0 = omega arith in
    rw (w, q, r) (omega arith)

pub bind_aggregated : (bits : ℕ) → bits < 16 → bits % 2 ≡ 0 → Bind (aggregated bits) 241 bits false
bind_aggregated bits g e = record {
  notes = λ n h. rw (keep_outer n (omega arith)) (raise_aggregated n bits g e);
  clears = λ n h. keep_outer n (omega arith);
  informs = refl;
  insists = or_true (ltb 0 bits);
  small = λ n h. omega arith;
  smaller = λ n h. omega arith;
  stays = λ n. let b : bits ≤ 14 = omega arith in let q : (n / 16 * 16 + n % 2 + bits) / 16 ≡ n / 16 = omega arith in rw q;
  cleans = λ n. omega arith;
  calms = calm_aggregated bits g e;
}

-- the source and its account after an accepted report whose masks are those of b
module _ (b : Bound) (s : Source) (r : Report) (g : Bind b r.kept r.raised r.carries) (k : HealthyS s) where
  pub noted_state : (noted s r).state ≡ written b s.state
  unfolding noted
  noted_state = g.notes s.state k.state

  pub offer_due : (offer_of s r).due ≡ shows_by b (account_of s)
  unfolding offer_of due noted shows_by differs account_of
  offer_due = rw (g.notes s.state k.state, g.informs, g.insists)

  noted_known : (noted s r).known ≡ (s.known || informs b)
  unfolding noted
  noted_known = ap (λ (x : Bool). s.known || x) g.informs

  settled_state : bit_and (noted s r).state r.kept ≡ cleared b (written b s.state)
  settled_state = ap (λ (n : ℕ). bit_and n r.kept) noted_state ∙ g.clears (written b s.state) (g.small s.state k.state)

  pub settled_account : account_of (settled s r) ≡ reported_account b (account_of s)
  unfolding account_of settled reported_account
  settled_account = λ i. record {
    kind = s.kind;
    network = s.network;
    started = s.started;
    state = settled_state i;
    known = noted_known i;
    shown = pick (offer_due i) (Some (noted_state i)) s.shown;
    heard = true;
  }

  pub settled_healthy : HealthyS (settled s r)
  unfolding settled
  settled_healthy = record {
    network = k.network;
    state = rw settled_state (g.smaller (written b s.state) (g.small s.state k.state));
    shown = shown_same s.kind s.state _ (rw settled_state (sym (g.cleans (written b s.state) ∙ g.stays s.state))) k.shown;
    bound = bound_same s.kind s.state _ (λ h. rw settled_state (g.calms s.state h)) k.bound;
  }
