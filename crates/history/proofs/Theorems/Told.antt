-- A loss is silent only as long as nothing is mirrored after it; and what a receiver can have.
use Prim.Native.Nat.{◌+◌}
use mathlib.Core.Path.{◌≡◌, sym, ◌∙◌}
use mathlib.Core.Bool.{Bool, true, false}
use mathlib.Core.List.{List, [], ◌∷◌, ◌++◌, reverse}
use native.Mathlib.Omega.{arith}
use lib.ListN.{length, length-reverse}
use Rattle.mirror.specs.declared.engine.Engine.{Engine}
use Rattle.history.specs.Account.{Account}
use Rattle.history.specs.Ledger.{Limits, Note, Ledger, taken_in, sent_in}
use Rattle.history.specs.Ledger as Rules
use Rattle.history.specs.Deed.{Deed}
use Rattle.history.specs.Loss.{Marks, IsLoss, Told, failed_on}
use Rattle.history.specs.History.{Both, Reads, frames_taken, frames_sent, History}
use Rattle.history.proofs.Ground.ListLaws.{both_unmarked, marks_counted, marks_reversed}

-- a loss is pending: the next item tells it
pending_told : (ns : List Note) (p : Bool) → Marks true ns p → Told ns p
pending_told [] p m = sym m
pending_told (Rules.made x ∷ ns) p m = m.0
pending_told (Rules.queued ∷ ns) p m = pending_told ns p m
pending_told (Rules.discarded ∷ ns) p m = pending_told ns p m
pending_told (Rules.unsent ∷ ns) p m = pending_told ns p m

loss_told : (b : Bool) (before after : List Note) (n : Note) (p : Bool) → IsLoss n → Marks b (before ++ (n ∷ after)) p → Told after p
loss_told b [] after (Rules.made x) p k m = absurd k
loss_told b [] after Rules.queued p k m = absurd k
loss_told b [] after Rules.discarded p k m = pending_told after p m
loss_told b [] after Rules.unsent p k m = pending_told after p m
loss_told b (Rules.made x ∷ before) after n p k m = loss_told false before after n p k m.1
loss_told b (Rules.queued ∷ before) after n p k m = loss_told b before after n p k m
loss_told b (Rules.discarded ∷ before) after n p k m = loss_told true before after n p k m
loss_told b (Rules.unsent ∷ before) after n p k m = loss_told true before after n p k m

-- after any discard or failed send the first item made has the lost bit; where none was made since, the engine has the loss
-- pending. What a receiver can have reads as the ledger's frames taken and not marked, which are all but the failed ones
pub record Tells (ds : List Deed) (l : Ledger) (u : Engine) : Type 0 where
  pub first : (before after : List Note) (n : Note) → l.notes ≡ before ++ (n ∷ after) → IsLoss n → Told after u.framer.meter.lost
  pub received : Both Reads (frames_sent l ds) (sent_in l)
  pub others : length (frames_sent l ds) + failed_on ds ≡ length (frames_taken ds)

module _ (c : Limits) (book : List Account) (ds : List Deed) (l : Ledger) (u : Engine) (h : History c book ds l u) where
  notes_marked : (ns : List Note) → l.notes ≡ ns → Marks false ns u.framer.meter.lost
  notes_marked ns q = rw (h.pending, ← q) h.marks

  all_counted : length (frames_sent l ds) + failed_on ds ≡ length (frames_taken ds)
  all_counted =
      let n = marks_counted (reverse l.sends) (frames_taken ds) (length-reverse l.sends ∙ h.marked) in
      let m = marks_reversed l.sends in
      omega (arith, h.called)

  pub told : Tells ds l u
  unfolding sent_in
  told = record {
    first = λ before after n q k. loss_told false before after n _ k (notes_marked (before ++ (n ∷ after)) q);
    received = both_unmarked Reads (reverse l.sends) (frames_taken ds) (taken_in l) h.taken;
    others = all_counted;
  }
