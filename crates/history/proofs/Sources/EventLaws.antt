-- The events that reports and ticks give: each fits every frame.
use Prim.Native.Nat.{ℕ, ◌+◌, ◌%◌, ◌^◌, ◌≤◌, ◌<◌}
use mathlib.Core.Path.{◌≡◌, refl, sym, ap, ◌∙◌}
use mathlib.Core.Bool.{Bool, true, false, ◌&&◌, ◌||◌}
use mathlib.Core.List.{List}
use native.Mathlib.Omega.{arith}
use lib.ListN.{length}
use lib.Dec.{leb, eqb}
use borrow.Author.Tests.{leb-true, le-leb, eqb-true}
use Rattle.codec.specs.Choice.{bit}
use Rattle.codec.specs.Number.{Bytes}
use Rattle.codec.specs.Time.{time_ok}
use Rattle.codec.specs.Ident.{kind_of, channels_ok, ident_ok, most_of}
use Rattle.codec.specs.Item.{shown_ok, set_of, set_for, load_ok, item_ok}
use Rattle.codec.specs.Layout.{IdentFits}
use Rattle.codec.specs.declared.time.Time.{Time}
use Rattle.codec.specs.declared.ident.Ident.{Ident}
use Rattle.std.specs.Prelude.{Some, None}
use Rattle.codec.proofs.BoolLaws.{and_l, and_r, or_true}
use Rattle.codec.proofs.PidLaws.{pid_small}
use Rattle.codec.proofs.Opened.{never}
use Rattle.codec.proofs.ItemLaws.{most_small, channels_in, flexray_in}
use Rattle.bus.specs.Report.{can_report, lin_report, flexray_report, frame_report, conflict_report, error_bits, error_report, offer_of}
use Rattle.bus.specs.declared.source.Source.{Source}
use Rattle.bus.specs.declared.report.Report.{Report}
use Rattle.bus.proofs.BusLaws.{Passed}
use Rattle.history.specs.Meaning.{Bound, none, errors, conflict, aggregated}
use Rattle.history.specs.Account.{Event, Account, written, informs, insists, differs, shows_by, report_event, state_event}
use Rattle.history.specs.Ledger.{Limits, state_in, item_in}
use Rattle.history.proofs.Ground.Machine.{offer_in, Fit}
use Rattle.history.proofs.Sources.SourceLaws.{account_of, HealthyS, HealthyA, kind_same, shown_same}
use Rattle.history.proofs.Sources.ReportLaws.{Bind, bind_none, bind_errors, bind_conflict, bind_aggregated, noted_state, offer_due}

-- the item of an event may stand in a frame, with a loss or without
event_ok : (ev : Event) → ident_ok ev.ident ≡ true → load_ok ev.carries (most_of ev.ident) (length ev.payload) ≡ true
    → shown_ok (kind_of ev.ident) ev.state ≡ true → set_for ev.ident (set_of (Some 0) ev.ident ev.carries) ≡ true
    → (ev.due ≡ false → set_for ev.ident (set_of None ev.ident ev.carries) ≡ true)
    → (offset : ℕ) (lost : Bool) → item_ok (item_in (record { event = ev; offset = offset; lost = lost })) (length ev.payload) ≡ true
unfolding item_ok item_in state_in
event_ok ev i l s e a offset true =
    let k = shown_same (kind_of ev.ident) ev.state (ev.state + 128) (omega arith) s in
    rw (e, k, i, l)
event_ok ev i l s e a offset false = go ev.due refl
  where
    go : (d : Bool) → ev.due ≡ d → item_ok (item_in (record { event = ev; offset = offset; lost = false })) (length ev.payload) ≡ true
    go true q = rw (q, e, s, i, l)
    go false q = rw (q, a q, i, l)

-- what a report says of its frame-bound bits and of its id, in the caller's own numbers
pub record Means (b : Bound) (id : Ident) (r : Report) (n : ℕ) : Type 0 where
  pub bind : Bind b r.kept r.raised r.carries
  pub ident : r.ident ≡ id
  pub fits : IdentFits id
  pub ok : ident_ok id ≡ true
  pub load : n ≤ most_of id → load_ok r.carries (most_of id) n ≡ true
  pub set : set_for id (set_of (Some 0) id r.carries) ≡ true
  pub still : (a : Account) → shows_by b a ≡ false → set_for id (set_of None id r.carries) ≡ true

pub means_can : (source : ℕ) (t : Time) (key n : ℕ) → key < 2 ^ 32 → (can_report source t key).ranged ≡ true → Means none (Ident.Can key) (can_report source t key) n
unfolding can_report
means_can source t key n h e = record {
  bind = bind_none;
  ident = refl;
  fits = h;
  ok = e;
  load = λ k. le-leb n _ k;
  set = refl;
  still = λ a z. refl;
}

pub means_lin : (source : ℕ) (t : Time) (pid bits n : ℕ) → (lin_report source t pid bits).ranged ≡ true → Means (errors bits) (Ident.Lin pid) (lin_report source t pid bits) n
unfolding lin_report
means_lin source t pid bits n e =
    let k : ident_ok (Ident.Lin pid) ≡ true = and_l (ident_ok (Ident.Lin pid)) (leb bits 15) e in
    let p : pid < 256 = pid_small pid k in
    let q : bits ≤ 15 = leb-true bits 15 (and_r (ident_ok (Ident.Lin pid)) (leb bits 15) e) in
    let x : pid % 256 ≡ pid = omega arith in
    let y : bits % 256 ≡ bits = omega arith in
    record {
      bind = rw y (bind_errors bits (omega arith));
      ident = ap Ident.Lin x;
      fits = p;
      ok = k;
      load = λ k. le-leb n 8 k;
      set = refl;
      still = λ a z. refl;
    }

flexray_own : (source : ℕ) (t : Time) (channels slot cycle : ℕ) (carries : Bool) (kept raised : ℕ)
    → (flexray_report source t channels slot cycle carries kept raised).ranged ≡ true
    → ((flexray_report source t channels slot cycle carries kept raised).ident ≡ Ident.FlexRay channels slot cycle)
    × (ident_ok (Ident.FlexRay channels slot cycle) ≡ true)
unfolding flexray_report
flexray_own source t channels slot cycle carries kept raised e =
    let h = flexray_in channels slot cycle e in
    let x : channels % 256 ≡ channels = omega (arith, h.1) in
    let y : slot % 65536 ≡ slot = omega (arith, h.3) in
    let z : cycle % 256 ≡ cycle = omega (arith, h.4) in
    (rw (x, y, z), e)

pub means_frame : (source : ℕ) (t : Time) (channels slot cycle n : ℕ) → (frame_report source t channels slot cycle).ranged ≡ true
    → Means none (Ident.FlexRay channels slot cycle) (frame_report source t channels slot cycle) n
unfolding flexray_report
means_frame source t channels slot cycle n e =
    let h = flexray_own source t channels slot cycle true 255 0 e in
    record {
      bind = bind_none;
      ident = h.0;
      fits = tt;
      ok = h.1;
      load = λ k. le-leb n 254 k;
      set = refl;
      still = λ a z. refl;
    }

-- what insists on the state is always shown
insists_shown : (b : Bound) (a : Account) → insists b ≡ true → shows_by b a ≡ true
unfolding shows_by
insists_shown b a e = rw e (or_true (differs (a.known || informs b) (written b a.state) a))

pub means_conflict : (source : ℕ) (t : Time) (channels slot cycle : ℕ) → (conflict_report source t channels slot cycle).ranged ≡ true
    → Means conflict (Ident.FlexRay channels slot cycle) (conflict_report source t channels slot cycle) 0
unfolding flexray_report
means_conflict source t channels slot cycle e =
    let h = flexray_own source t channels slot cycle false 254 1 e in
    record {
      bind = bind_conflict;
      ident = h.0;
      fits = tt;
      ok = h.1;
      load = λ k. refl;
      set = refl;
      still = λ a z. never (sym (ap bit (sym (insists_shown conflict a refl) ∙ z)));
    }

pub means_error : (source : ℕ) (t : Time) (channels bits : ℕ) → (error_report source t channels bits).ranged ≡ true
    → Means (aggregated bits) (Ident.FlexRayError channels) (error_report source t channels bits) 0
unfolding error_report error_bits
means_error source t channels bits e =
    let k = and_l (channels_ok channels) (leb bits 15 && eqb (bits % 2) 0) e in
    let j = and_r (channels_ok channels) (leb bits 15 && eqb (bits % 2) 0) e in
    let p = channels_in channels k in
    let q : bits ≤ 15 = leb-true bits 15 (and_l (leb bits 15) (eqb (bits % 2) 0) j) in
    let d : bits % 2 ≡ 0 = eqb-true (bits % 2) 0 (and_r (leb bits 15) (eqb (bits % 2) 0) j) in
    let x : channels % 256 ≡ channels = omega (arith, p.1) in
    let y : bits % 256 ≡ bits = omega arith in
    record {
      bind = rw y (bind_aggregated bits (omega arith) d);
      ident = ap Ident.FlexRayError x;
      fits = tt;
      ok = k;
      load = λ k. refl;
      set = refl;
      still = λ a z. never (sym (ap bit (sym (insists_shown (aggregated bits) a refl) ∙ z)));
    }

-- an accepted report is one event that fits
module _ (b : Bound) (id : Ident) (s : Source) (r : Report) (payload : List ℕ) (m : Means b id r (length payload)) (k : HealthyS s) where
  pub offer_meant : offer_of s r ≡ offer_in (report_event b (account_of s) r.time id r.carries payload)
  unfolding offer_of offer_in report_event account_of
  offer_meant = λ i. record {
    network = s.network;
    ident = m.ident i;
    carries = r.carries;
    state = noted_state b s r m.bind k i;
    due = offer_due b s r m.bind k i;
  }

  pub report_fit : (c : Limits) (count f : ℕ) → f ≡ c.size → Passed count f s r (length payload) → Bytes payload
      → Fit c (report_event b (account_of s) r.time id r.carries payload)
  unfolding report_event account_of
  report_fit c count f e p bytes =
      let same : s.kind ≡ kind_of id = kind_same s.kind (kind_of r.ident) p.kind ∙ ap kind_of m.ident in
      let most : length payload ≤ most_of id = rw m.ident at p.most in
      let shown : shown_ok (kind_of id) (written b s.state) ≡ true = rw (← same) (shown_same s.kind s.state _ (sym (m.bind.stays s.state)) k.shown) in
      record {
        time = p.time;
        network = k.network;
        ident = m.fits;
        payload = bytes;
        short = omega (arith, most_small id);
        state = m.bind.small s.state k.state;
        size = rw (← m.ident) (omega (arith, p.fits));
        ok = event_ok _ m.ok (m.load most) shown m.set (m.still (account_of s));
      }

-- the state-only item of a tick
pub state_fit : (c : Limits) (t : Time) (a : Account) → HealthyA a → time_ok t ≡ true → 32 ≤ c.size → Fit c (state_event t a)
unfolding state_event
state_fit c t a k e h = record {
  time = e;
  network = k.network;
  ident = tt;
  payload = tt;
  short = omega arith;
  state = k.state;
  size = omega arith;
  ok = event_ok _ refl refl k.shown refl (λ z. never (sym (ap bit z)));
}
