-- Calls that change one source alone (docs/RULES.md, "Filters", rule 4).
use Rattle.std.specs.Prelude.{ℕ, set, Result, Ok}
use Rattle.framer.specs.declared.cause.Cause.{Cause}
use Rattle.bus.specs.Source.{started_source, stopped_source, free_at, add_cause, added_filter, remove_cause, removed_filter}
use Rattle.bus.specs.Update.{update_cause, updated}
use Rattle.bus.specs.declared.source.Source.{Source}
use Rattle.bus.specs.declared.filter.Addition.{Addition}
use Rattle.bus.specs.declared.update.Update.{Update}
use Rattle.mirror.specs.Engine.{cause_of, answered, source_cause, source_at, with_source}
use Rattle.mirror.specs.declared.engine.Engine.{Engine}
use Rattle.mirror.specs.declared.engine.Outcome.{Outcome}

-- another record in the place of a source, unless there is a cause against it
unfoldable pub stored_of : Engine → ℕ → Source → Result Unit Cause → Outcome Unit
stored_of e k s cause = answered e cause tt (record { count = e.count; sources = set e.sources k s; framer = e.framer })

-- start and stop: 19, 2
unfoldable pub start_of : Engine → ℕ → Outcome Unit
start_of e source =
    answered e (cause_of e (source_cause e source (Ok tt))) tt (with_source e source (started_source (source_at e source)) e.framer)

unfoldable pub stop_of : Engine → ℕ → Outcome Unit
stop_of e source =
    answered e (cause_of e (source_cause e source (Ok tt))) tt (with_source e source (stopped_source (source_at e source)) e.framer)

-- state updates: 19, 2, 4, 3, 5
unfoldable pub update_of : Engine → Update → Outcome Unit
update_of e u =
    answered e (cause_of e (update_cause e.count (source_at e u.source) u)) tt
    (with_source e u.source (updated (source_at e u.source) u) e.framer)

-- filter adding: 19, 2, 4, 9, 10; the lowest free place is the filter's number
unfoldable pub add_of : Engine → Addition → Outcome ℕ
add_of e a =
    let s = source_at e a.source in
    answered e (cause_of e (add_cause e.count s a)) (free_at s.places) (with_source e a.source (added_filter s a.filter) e.framer)

-- removing: 19, 2, 11
unfoldable pub remove_of : Engine → ℕ → ℕ → Outcome Unit
remove_of e source number =
    answered e (cause_of e (source_cause e source (remove_cause (source_at e source) number))) tt
    (with_source e source (removed_filter (source_at e source) number) e.framer)
