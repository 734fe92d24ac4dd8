-- The engine's own record, and what every call has in common (docs/RULES.md, "The engine", "Answers").
use Rattle.std.specs.Prelude.{ℕ, Bool, false, ◌&&◌, List, [], get_or, set, replicate, ltb, leb, None, Result, Ok, Err}
use Rattle.codec.specs.Choice.{pick}
use Rattle.codec.specs.declared.ident.Kind.TheVariants as Kind
use Rattle.framer.specs.Cause.{guard}
use Rattle.framer.specs.declared.cause.Cause.{Cause}
use Rattle.framer.specs.Meter.{sound_meter}
use Rattle.framer.specs.Framer.{empty_framer}
use Rattle.framer.specs.declared.framer.Framer.{Framer}
use Rattle.bus.specs.Source.{fresh_source}
use Rattle.bus.specs.declared.source.Source.{Source}
use Rattle.mirror.specs.declared.engine.Engine.{Engine}
use Rattle.mirror.specs.declared.engine.Outcome.{Outcome}

unfoldable pub no_sources : List Source
no_sources = replicate 8 (fresh_source Kind.Can 0)

-- before setup there are no sources
unfoldable pub fresh_engine : Engine
fresh_engine = record { count = 0; sources = no_sources; framer = empty_framer 32 1 (record { 0 = 0 }) }

-- the one written soundness rule: at most eight sources, and the framer's counters in range
unfoldable pub sound_of : Engine → Bool
sound_of e = leb e.count 8 && sound_meter e.framer.meter

-- 19 before all
unfoldable pub cause_of : {A : Type 0} → Engine → Result A Cause → Result A Cause
cause_of e rest = guard (sound_of e) Cause.Unsound rest

-- every refusal leaves the state unchanged, and no other number stands beside it
abbrev pub answered : {A : Type 0} → Engine → Result Unit Cause → A → Engine → Outcome A
answered e (Ok u) x after = record { engine = after; answer = Ok x }
answered e (Err c) x after = record { engine = e; answer = Err c }

-- no such source (answer 2)
unfoldable pub source_cause : {A : Type 0} → Engine → ℕ → Result A Cause → Result A Cause
source_cause e source rest = guard (ltb source e.count) Cause.NoSource rest

-- the place of a source; a number past the eighth is refused by its cause
unfoldable pub index_of : ℕ → ℕ
index_of source = pick (ltb source 8) source 0

-- what an array holds where there is nothing
abbrev pub no_source : Source
no_source = record {
  kind = Kind.Can;
  network = 0;
  started = false;
  state = 0;
  known = false;
  shown = None;
  heard = false;
  places = [];
}

unfoldable pub source_at : Engine → ℕ → Source
source_at e source = get_or e.sources (index_of source) no_source

-- the engine with one source changed, and with that and a changed framer
unfoldable pub with_source : Engine → ℕ → Source → Framer → Engine
with_source e source s w = record { count = e.count; sources = set e.sources (index_of source) s; framer = w }

-- the discard count (rule 3) and the failure count (rule 8), which are asked for: only 19
unfoldable pub discards_of : Engine → Result ℕ Cause
discards_of e = cause_of e (Ok e.framer.meter.discards)

unfoldable pub failures_of : Engine → Result ℕ Cause
failures_of e = cause_of e (Ok e.framer.meter.failures)
