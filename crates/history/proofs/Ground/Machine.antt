-- The engine's framer as a machine on the ledger's operations, and what an event must be for it.
use Prim.Native.Nat.{ℕ, ◌+◌, ◌≤◌, ◌<◌}
use mathlib.Core.Path.{◌≡◌, refl}
use mathlib.Core.Bool.{Bool, true}
use mathlib.Core.List.{List, [], ◌∷◌, ◌++◌, map}
use lib.ListN.{length}
use Rattle.codec.specs.Number.{Bytes}
use Rattle.codec.specs.Time.{time_ok}
use Rattle.codec.specs.Ident.{ident_bytes}
use Rattle.codec.specs.Item.{item_ok, load_length}
use Rattle.codec.specs.Layout.{IdentFits, layout}
use Rattle.framer.specs.Meter.{taken_meter}
use Rattle.framer.specs.Framer.{add, passed, failed}
use Rattle.framer.specs.declared.offer.Offer.{Offer}
use Rattle.framer.specs.declared.framer.Framer.{Framer}
use Rattle.history.specs.Account.{Event}
use Rattle.history.specs.Ledger.{Limits, Frame, Op, item_in, entry_in}
use Rattle.history.specs.Ledger as Rules

-- an event as the framer takes it
unfoldable pub offer_in : Event → Offer
offer_in ev = record { network = ev.network; ident = ev.ident; carries = ev.carries; state = ev.state; due = ev.due }

abbrev pub step_w : Framer → Op → Framer
step_w w (Rules.event ev) = add w ev.time (offer_in ev) ev.payload
step_w w (Rules.deadline t) = passed w t
step_w w Rules.take = record { meter = taken_meter w.meter; bytes = w.bytes; queue = w.queue }
step_w w Rules.fail = failed w

abbrev pub run_w : Framer → List Op → Framer
run_w w [] = w
run_w w (op ∷ ops) = run_w (step_w w op) ops

pub run_append : (w : Framer) (a b : List Op) → run_w w (a ++ b) ≡ run_w (run_w w a) b
run_append w [] b = refl
run_append w (op ∷ a) b = run_append (step_w w op) a b

-- an event whose item may stand in any frame of the limits, with or without a loss, at any offset
pub record Fit (c : Limits) (ev : Event) : Type 0 where
  pub time : time_ok ev.time ≡ true
  pub network : ev.network < 256
  pub ident : IdentFits ev.ident
  pub payload : Bytes ev.payload
  pub short : length ev.payload ≤ 254
  pub state : ev.state < 128
  pub size : 14 + (5 + length (ident_bytes ev.ident) + load_length ev.carries (length ev.payload)) ≤ c.size
  pub ok : (offset : ℕ) (lost : Bool) → item_ok (item_in (record { event = ev; offset = offset; lost = lost })) (length ev.payload) ≡ true

abbrev pub FitOp : Limits → Op → Type 0
FitOp c (Rules.event ev) = Fit c ev
FitOp c (Rules.deadline t) = Unit
FitOp c Rules.take = Unit
FitOp c Rules.fail = Unit

-- the bytes of a frame of the ledger
unfoldable pub laid : Frame → List ℕ
laid f = layout f.sequence f.time (map entry_in f.lines)
