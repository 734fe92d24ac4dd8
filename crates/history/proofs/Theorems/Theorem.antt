-- Demand 3: what any sequence of calls after an accepted setup leaves behind.
use Prim.Native.Nat.{ℕ, ◌%◌, ◌≤◌}
use mathlib.Core.Path.{◌≡◌, refl, sym, ◌∙◌, ap, subst}
use mathlib.Core.Bool.{Bool, true, false}
use mathlib.Core.List.{List, [], ◌∷◌, ◌++◌, map}
use native.Mathlib.Omega.{arith}
use lib.ListN.{length, take, length-map}
use lib.Seq.{length-take-le}
use Rattle.std.specs.Prelude.{Ok}
use Rattle.codec.specs.Choice.{pick}
use Rattle.framer.specs.declared.meter.Meter.{Meter}
use Rattle.mirror.specs.Engine.{sound_of, cause_of, discards_of, failures_of}
use Rattle.mirror.specs.Call.{Call, step_of, run_of}
use Rattle.mirror.specs.declared.engine.Engine.{Engine}
use Rattle.history.specs.Account.{Account, accounts_for}
use Rattle.history.specs.Ledger.{Limits, Ledger, Op, empty_ledger, is_empty, kept_in, discard_count, taken_in, waiting_in, failures_in, failure_count, is_out, filling_in, run_l}
use Rattle.history.specs.Deed.{Deed, deeds_of, ops_on, ledger_of}
use Rattle.history.specs.Clock.{tells_by, says_by}
use Rattle.history.specs.Loss.{failed_on}
use Rattle.history.specs.History.{Plain, All, frames_taken, frames_waiting, frames_filling, set_up, Leaves}
use Rattle.history.proofs.Ground.Machine.{laid}
use Rattle.history.proofs.Ground.ListLaws.{all_map, all_take, all_drop}
use Rattle.history.proofs.Ledger.LedgerLaws.{closes_at, items_are}
use Rattle.history.proofs.Ledger.TakeLaws.{run_took}
use Rattle.history.proofs.Ledger.DeedLaws.{events-in}
use Rattle.history.proofs.Ledger.MarkLaws.{marks_are, noted_are}
use Rattle.history.proofs.Ledger.FrameLaws.{Good, good_frames, good_filling, good_kept}
use Rattle.history.proofs.Reader.ReadLaws.{all_read}
use Rattle.history.proofs.Framer.SlotLaws.{ring}
use Rattle.history.proofs.Framer.MeterLaws.{meter_of, filled_in, filled_zero}
use Rattle.history.proofs.Framer.FillLaws.{image_front}
use Rattle.history.proofs.Framer.SimLaws.{Tied, size_limit, empty_tied}
use Rattle.history.proofs.Sources.BookLaws.{book_of, Steady}
use Rattle.history.proofs.Sources.SetupLaws.{setup_limits, setup_framer, setup_book, setup_steady}
use Rattle.history.proofs.Engine.RunLaws.{Ran, ran, ran_tied}
use Rattle.history.proofs.Engine.ClockLaws.{moment, tells-by}
use Rattle.history.proofs.Engine.FailLaws.{fails_by, called_on}

-- the frames in the engine are those of the ledger
module _ (c : Limits) (e : Engine) (l : Ledger) (t : Tied c e.framer l) where
  pub waiting_are : frames_waiting e ≡ map laid (waiting_in l)
  unfolding frames_waiting meter_of
  waiting_are =
      rw t.tie.meter (ring e.framer.queue (length l.sends % 8) (length l.sends) (length (waiting_in l)) (omega arith) ∙ t.tie.slots)

  filling_are : frames_filling e ≡ map laid (filling_in l)
  unfolding frames_filling filling_in meter_of
  filling_are = rw (t.tie.meter, filled_zero l.filling.lines) (go (is_empty l.filling.lines) refl)
    where
      go : (b : Bool) → is_empty l.filling.lines ≡ b
          → pick b [] (take (filled_in l.filling.lines) e.framer.bytes ∷ []) ≡ map laid (pick b [] (l.filling ∷ []))
      go true q = refl
      go false q = ap (λ (x : List ℕ). x ∷ []) (rw t.tie.bytes (image_front l.filling q))

  discards_are : sound_of e ≡ true → discards_of e ≡ Ok (discard_count l)
  unfolding discards_of cause_of meter_of
  discards_are s = rw s (ap (λ (m : Meter). Ok m.discards) t.tie.meter)

  failures_are : sound_of e ≡ true → failures_of e ≡ Ok (failure_count l)
  unfolding failures_of cause_of meter_of
  failures_are s = rw s (ap (λ (m : Meter). Ok m.failures) t.tie.meter)

  lost_is : e.framer.meter.lost ≡ l.lost
  unfolding meter_of
  lost_is = ap (λ (m : Meter). m.lost) t.tie.meter

-- an engine with nothing collected yet, as setup leaves it
pub record Begun (c : Limits) (book : List Account) (e : Engine) : Type 0 where
  pub steady : Steady e
  pub tied : Tied c e.framer empty_ledger
  pub accounts : book_of e ≡ book

module _ (c : Limits) (book : List Account) (e : Engine) (calls : List Call) (b : Begun c book e) (p : All Plain calls) where
  abbrev ops : List Op
  ops = ops_on (book_of e) (deeds_of e calls)

  abbrev end : Ledger
  end = run_l c empty_ledger ops

  run_is : Ran c e empty_ledger calls
  run_is = ran c e empty_ledger calls b.steady p b.tied

  pub end_steady : Steady (run_of e calls)
  end_steady = run_is.steady

  pub end_tied : Tied c (run_of e calls).framer end
  end_tied = ran_tied c e empty_ledger calls b.steady p b.tied

  taken_are : frames_taken (deeds_of e calls) ≡ map laid (taken_in end)
  unfolding empty_ledger taken_in
  taken_are = run_is.out ∙ ap (map laid) (sym (run_took c empty_ledger ops b.tied.ledger))

  small : c.size ≤ 1024
  small = size_limit c e.framer empty_ledger b.tied

  good : All (Good c) (kept_in end.closed)
  good = good_kept c ops small run_is.fit

  tells_at : (before after : List Deed) (d : Deed) → deeds_of e calls ≡ before ++ (d ∷ after) → says_by d ≡ tells_by (ledger_of c (book_of e) before) d
  unfolding ledger_of
  tells_at before after d q =
      let m = moment e calls before after d q p in
      let t = ran_tied c e empty_ledger m.calls b.steady m.plain b.tied in
      ap says_by m.deed ∙ tells-by c (run_of e m.calls) _ t m.call ∙ sym (λ i. tells_by (ledger_of c (book_of e) (m.deeds i)) (m.deed i))

  fails_at : (before after : List Deed) (d : Deed) → deeds_of e calls ≡ before ++ (d ∷ after) → d.call ≡ Call.failed
      → d.said.answer ≡ pick (is_out (ledger_of c (book_of e) before).sends) 0 17
  unfolding ledger_of
  fails_at before after d q k =
      let m = moment e calls before after d q p in
      let r = ran c e empty_ledger m.calls b.steady m.plain b.tied in
      let t = ran_tied c e empty_ledger m.calls b.steady m.plain b.tied in
      let x : m.call ≡ Call.failed = sym (ap (λ (y : Deed). y.call) m.deed) ∙ k in
      ap (λ (y : Deed). y.said.answer) m.deed ∙ ap (λ (y : Call). (step_of (run_of e m.calls) y).said.answer) x
      ∙ fails_by c (run_of e m.calls) _ r.steady.sound t ∙ sym (λ i. pick (is_out (ledger_of c (book_of e) (m.deeds i)).sends) 0 17)

  called_are : failures_in end.sends ≡ failed_on (deeds_of e calls)
  unfolding empty_ledger
  called_are = omega (arith, called_on c e empty_ledger calls b.steady p b.tied)

  marked_are : length end.sends ≡ length (frames_taken (deeds_of e calls))
  unfolding taken_in
  marked_are = sym (rw taken_are (length-map (taken_in end) laid ∙ length-take-le (length end.sends) (kept_in end.closed) end_tied.ledger.taken))

  from_book : Leaves c (book_of e) e calls
  unfolding ledger_of taken_in waiting_in
  from_book = record {
    taken = rw taken_are (all_read c (taken_in end) (all_take (Good c) (length end.sends) (kept_in end.closed) good));
    waiting = rw (waiting_are c (run_of e calls) end end_tied) (all_read c (waiting_in end) (all_drop (Good c) (length end.sends) (kept_in end.closed) good));
    filling = rw (filling_are c (run_of e calls) end end_tied) (all_read c (filling_in end) (good_filling c ops small run_is.fit));
    items = items_are c ops ∙ events-in (book_of e) (deeds_of e calls);
    closes = λ before after op q. closes_at c ops before after op q;
    discards = discards_are c (run_of e calls) end end_tied run_is.steady.sound;
    filled = all_map (λ k. Good c k.frame) (λ k. k.frame.lines ≡ [] → ⊥) (λ k g. g.filled) end.closed (good_frames c ops small run_is.fit).0;
    marks = marks_are c ops run_is.fit;
    noted = noted_are c ops;
    pending = lost_is c (run_of e calls) end end_tied;
    answers = run_is.answers;
    tells = tells_at;
    fails = fails_at;
    failures = failures_are c (run_of e calls) end end_tied run_is.steady.sound;
    called = called_are;
    marked = marked_are;
  }

  pub history_from : Leaves c book e calls
  history_from = subst (λ (x : List Account). Leaves c x e calls) b.accounts from_book

pub setup_begun : (e : Engine) (c : Limits) (pairs : List ℕ) → (set_up e c pairs).said.answer ≡ 0 → Begun c (accounts_for pairs) (set_up e c pairs).engine
setup_begun e c pairs z = record {
  steady = setup_steady e c.size c.room c.deadline pairs z;
  tied = rw (setup_framer e c.size c.room c.deadline pairs z) (empty_tied c (setup_limits e c.size c.room c.deadline pairs z));
  accounts = setup_book e c.size c.room c.deadline pairs z;
}

-- demand 3: after an accepted setup, for every list of calls with no offline or switch
pub history : (e : Engine) (c : Limits) (pairs : List ℕ) (calls : List Call) → (set_up e c pairs).said.answer ≡ 0 → All Plain calls
    → Leaves c (accounts_for pairs) (set_up e c pairs).engine calls
history e c pairs calls z p = history_from c (accounts_for pairs) (set_up e c pairs).engine calls (setup_begun e c pairs z) p
