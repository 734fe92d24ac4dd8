-- Setup, switch and offline (docs/RULES.md, "The engine").
use Rattle.std.specs.Prelude.{ℕ, suc, ◌/◌, ◌%◌, Bool, true, false, not, ◌&&◌, ◌||◌, List, [], ◌∷◌, map, length, set, leb, eqb, Result, Ok}
use Rattle.codec.specs.Choice.{pick}
use Rattle.codec.specs.declared.ident.Kind.{Kind}
use Rattle.codec.specs.declared.time.Millis.{Millis}
use Rattle.framer.specs.Cause.{guard}
use Rattle.framer.specs.declared.cause.Cause.{Cause}
use Rattle.framer.specs.Meter.{limits_ok}
use Rattle.framer.specs.Framer.{empty_framer}
use Rattle.bus.specs.Source.{fresh_source, reset_source}
use Rattle.bus.specs.declared.source.Source.{Source}
use Rattle.mirror.specs.Engine.{no_sources, cause_of, answered}
use Rattle.mirror.specs.declared.engine.Engine.{Engine}
use Rattle.mirror.specs.declared.engine.Outcome.{Outcome}

-- kind 1 CAN, 2 LIN, 3 FlexRay; every other is refused
unfoldable pub kind_numbered : ℕ → Kind
kind_numbered n = pick (eqb n 1) Kind.Can (pick (eqb n 2) Kind.Lin Kind.FlexRay)

-- an id in range is its own remainder
unfoldable pub source_numbered : ℕ → ℕ → Source
source_numbered kind id = fresh_source (kind_numbered kind) (id % 256)

-- a kind, and a network id 0 to 255
unfoldable pub pair_ok : ℕ → ℕ → Bool
pair_ok kind id = leb 1 kind && leb kind 3 && leb id 255

-- kind and id stand among the pairs
abbrev pub named_again : ℕ → ℕ → List ℕ → Bool
named_again kind id [] = false
named_again kind id (k ∷ []) = false
named_again kind id (k ∷ (i ∷ rest)) = (eqb k kind && eqb i id) || named_again kind id rest

-- pairs of kind and id, each in range, none named twice
abbrev pub pairs_ok : List ℕ → Bool
pairs_ok [] = true
pairs_ok (k ∷ []) = false
pairs_ok (k ∷ (i ∷ rest)) = pair_ok k i && not (named_again k i rest) && pairs_ok rest

-- 1 to 8 sources
unfoldable pub sources_ok : List ℕ → Bool
sources_ok pairs = leb (length pairs) 16 && leb 2 (length pairs) && pairs_ok pairs

-- a source's number is its place in setup's list from 0
abbrev pub named : ℕ → List ℕ → List Source → List Source
named k [] sources = sources
named k (kind ∷ []) sources = sources
named k (kind ∷ (id ∷ rest)) sources = named (suc k) rest (set sources k (source_numbered kind id))

-- setup: 19, 14 (out of range, kind and id named twice, or already done)
unfoldable pub setup_cause : Engine → ℕ → ℕ → ℕ → List ℕ → Result Unit Cause
setup_cause e size room deadline pairs =
    cause_of e (guard (eqb e.count 0 && limits_ok size room deadline && sources_ok pairs) Cause.BadSetup (Ok tt))

unfoldable pub setup_of : Engine → ℕ → ℕ → ℕ → List ℕ → Outcome Unit
setup_of e size room deadline pairs =
    answered e (setup_cause e size room deadline pairs) tt (record {
      count = length pairs / 2;
      sources = named 0 pairs no_sources;
      framer = empty_framer size room (record { 0 = deadline });
    })

-- nothing but the kinds and ids is kept
unfoldable pub reset_of : Engine → ℕ → ℕ → Millis → Engine
reset_of e size room deadline =
    record { count = e.count; sources = map reset_source e.sources; framer = empty_framer size room deadline }

-- switch: 19, 14 (out of range, or before setup); the state after setup, with a new F, Q and D
unfoldable pub switch_cause : Engine → ℕ → ℕ → ℕ → Result Unit Cause
switch_cause e size room deadline = cause_of e (guard (not (eqb e.count 0) && limits_ok size room deadline) Cause.BadSetup (Ok tt))

unfoldable pub switch_of : Engine → ℕ → ℕ → ℕ → Outcome Unit
switch_of e size room deadline = answered e (switch_cause e size room deadline) tt (reset_of e size room (record { 0 = deadline }))

-- offline: 19; the state after setup with the same setup, and before setup nothing changes
unfoldable pub offline_of : Engine → Outcome Unit
offline_of e =
    answered e (cause_of e (Ok tt)) tt (pick (eqb e.count 0) e (reset_of e e.framer.meter.size e.framer.meter.room e.framer.meter.deadline))
