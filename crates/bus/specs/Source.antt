-- A source (docs/RULES.md, "The engine", "Filters", rules 4 and 6).
use Rattle.std.specs.Prelude.{ℕ, suc, Bool, true, false, not, ◌&&◌, ◌||◌, List, [], ◌∷◌, replicate, get_or, set, ltb, eqb, Option, Some, None, Result, Ok}
use Rattle.codec.specs.Choice.{pick, opened}
use Rattle.codec.specs.declared.ident.Kind.{Kind}
use Rattle.codec.specs.declared.ident.Ident.{Ident}
use Rattle.framer.specs.Cause.{guard}
use Rattle.framer.specs.declared.cause.Cause.{Cause}
use Rattle.framer.specs.declared.offer.Offer.{Offer}
use Rattle.bus.specs.Filter.{matches, is_free, same_kind}
use Rattle.bus.specs.declared.filter.Filter.{Filter}
use Rattle.bus.specs.declared.filter.Addition.{Addition}
use Rattle.bus.specs.declared.source.Source.{Source}

-- after setup: not started, no filters, the state byte 0, unknown and unshown
unfoldable pub fresh_source : Kind → ℕ → Source
fresh_source kind network = record {
  kind = kind;
  network = network;
  started = false;
  state = 0;
  known = false;
  shown = None;
  heard = false;
  places = replicate 8 Filter.Free;
}

-- offline and switch return to that
unfoldable pub reset_source : Source → Source
reset_source s = fresh_source s.kind s.network

-- starting, also twice, makes the byte 0, unknown and unshown (rule 4)
unfoldable pub started_source : Source → Source
started_source s = record {
  kind = s.kind;
  network = s.network;
  started = true;
  state = 0;
  known = false;
  shown = None;
  heard = s.heard;
  places = s.places;
}

-- stopping keeps what is collected (rule 4)
unfoldable pub stopped_source : Source → Source
stopped_source s = record {
  kind = s.kind;
  network = s.network;
  started = false;
  state = s.state;
  known = s.known;
  shown = s.shown;
  heard = s.heard;
  places = s.places;
}

-- a report passes if at least one filter matches
abbrev pub passes : List Filter → Ident → Bool
passes [] id = false
passes (p ∷ ps) id = matches p id || passes ps id

-- the lowest free place, or how many places there are
abbrev pub free_at : List Filter → ℕ
free_at [] = 0
free_at (p ∷ ps) = pick (is_free p) 0 (suc (free_at ps))

-- the lowest free place of eight
unfoldable pub free_in : List Filter → Option ℕ
free_in ps = pick (ltb (free_at ps) 8) (Some (free_at ps)) None

-- filter adding: 2, 4, 9, 10
unfoldable pub add_cause : ℕ → Source → Addition → Result Unit Cause
add_cause count s a =
    guard (ltb a.source count) Cause.NoSource
    (guard (same_kind s.kind a.kind) Cause.OtherKind
    (guard a.good Cause.BadFilter
    (guard (ltb (free_at s.places) 8) Cause.NoPlace
    (Ok tt))))

-- the same source with other places
abbrev pub with_places : Source → List Filter → Source
with_places s ps = record {
  kind = s.kind;
  network = s.network;
  started = s.started;
  state = s.state;
  known = s.known;
  shown = s.shown;
  heard = s.heard;
  places = ps;
}

-- adding uses the lowest free place
unfoldable pub added_filter : Source → Filter → Source
added_filter s f = pick (ltb (free_at s.places) 8) (with_places s (set s.places (free_at s.places) f)) s

-- removing: 11, no such filter
unfoldable pub remove_cause : Source → ℕ → Result Unit Cause
remove_cause s number =
    guard (ltb number 8) Cause.NoFilter
    (guard (not (is_free (get_or s.places number Filter.Free))) Cause.NoFilter
    (Ok tt))

-- a removed place is free again
unfoldable pub removed_filter : Source → ℕ → Source
removed_filter s number = pick (ltb number 8) (with_places s (set s.places number Filter.Free)) s

-- the state is known, and was never shown or differs from the last shown (rules 4 and 6)
unfoldable pub due : Source → Bool
due s = s.known && not (opened s.shown (λ byte. eqb byte s.state) false)

-- a tick shows it for a started source from which no report was accepted since the last tick (rule 6)
unfoldable pub tick_due : Source → Bool
tick_due s = s.started && due s && not s.heard

-- a state-only item (rule 6)
unfoldable pub state_offer : Source → Offer
state_offer s = record { network = s.network; ident = Ident.Bare s.kind; carries = false; state = s.state; due = true }

-- what a tick leaves of the source
unfoldable pub calmed : Source → Source
calmed s = record {
  kind = s.kind;
  network = s.network;
  started = s.started;
  state = s.state;
  known = s.known;
  shown = pick (tick_due s) (Some s.state) s.shown;
  heard = false;
  places = s.places;
}
