-- What each call of the engine says to the ledger, if it is answered 0 (docs/RULES.md, "Frame bytes", rules 4 to 8).
use Rattle.std.specs.Prelude.{ℕ, ◌+◌, ◌*◌, ◌/◌, min, Bool, true, false, List, []}
use Rattle.codec.specs.Choice.{pick, bit}
use Rattle.codec.specs.declared.time.Time.{Time}
use Rattle.codec.specs.declared.ident.Ident.{Ident}
use Rattle.mirror.specs.Call.{Call}

-- the frame-bound bits that a report writes: none; LIN's four error bits; FlexRay's conflict bit; the three bits of a FlexRay error
-- without a frame, which is aggregated over the channels (rule 4)
pub data Bound : Type 0 where
  none : Bound
  errors : ℕ → Bound
  conflict : Bound
  aggregated : ℕ → Bound

-- a source is started or stopped; its state byte is updated; it reports, with its frame-bound bits, a time, an id, whether a
-- payload is carried, and the payload; the clock ticks; a frame is taken; the one last taken has failed; F, Q and D are new; all is
-- dropped; or nothing
pub data Meaning : Type 0 where
  starts : ℕ → Meaning
  stops : ℕ → Meaning
  updates : ℕ → ℕ → Meaning
  reports : ℕ → Bound → Time → Ident → Bool → List ℕ → Meaning
  ticks : Time → Meaning
  takes : Meaning
  fails : Meaning
  switches : ℕ → ℕ → ℕ → Meaning
  drops : Meaning
  nothing : Meaning

-- the state byte of a CAN update: online 64, error-passive 32, bus-off 16, the counter divided by 8 and cut to 15; offline makes
-- all of it zero
unfoldable pub can_state : Bool → Bool → Bool → ℕ → ℕ
can_state online passive busOff counter = pick online (64 + bit passive * 32 + bit busOff * 16 + min (counter / 8) 15) 0

-- a LIN update gives online only, a FlexRay update online and bits 5 and 4; a frame report carries id and payload, a conflict and an
-- error without a frame id and state (rule 5); filters are no matter of the ledger: whether a report passed them, its answer tells
abbrev pub meaning : Call → Meaning
meaning (Call.start source) = starts source
meaning (Call.stop source) = stops source
meaning (Call.can-state source online passive busOff counter) = updates source (can_state online passive busOff counter)
meaning (Call.lin-state source online) = updates source (bit online * 64)
meaning (Call.flexray-state source online bits) = updates source (bit online * 64 + bits)
meaning (Call.can source t key payload) = reports source none t (Ident.Can key) true payload
meaning (Call.lin source t pid bits payload) = reports source (errors bits) t (Ident.Lin pid) true payload
meaning (Call.flexray source t channels slot cycle payload) = reports source none t (Ident.FlexRay channels slot cycle) true payload
meaning (Call.conflict source t channels slot cycle) = reports source conflict t (Ident.FlexRay channels slot cycle) false []
meaning (Call.flexray-error source t channels bits) = reports source (aggregated bits) t (Ident.FlexRayError channels) false []
meaning (Call.tick t) = ticks t
meaning (Call.take out) = takes
meaning Call.failed = fails
meaning (Call.switch size room deadline) = switches size room deadline
meaning Call.offline = drops
meaning (Call.setup size room deadline pairs) = nothing
meaning (Call.can-mask source mask code) = nothing
meaning (Call.can-range source lower upper) = nothing
meaning (Call.lin-mask source mask code) = nothing
meaning (Call.lin-range source lower upper) = nothing
meaning (Call.slots source low high lowCycle highCycle repetition) = nothing
meaning (Call.remove source number) = nothing
meaning Call.discards = nothing
meaning Call.failures = nothing
