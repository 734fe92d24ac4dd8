-- A tick (rule 6).
use Rattle.std.specs.Prelude.{ℕ, zero, suc, [], get_or, set, Result, Ok}
use Rattle.codec.specs.Choice.{pick}
use Rattle.codec.specs.Time.{time_ok}
use Rattle.codec.specs.declared.time.Time.{Time}
use Rattle.codec.specs.declared.time.Nanos.{Nanos}
use Rattle.framer.specs.Cause.{guard}
use Rattle.framer.specs.declared.cause.Cause.{Cause}
use Rattle.framer.specs.Meter.{back_for}
use Rattle.framer.specs.Framer.{add, passed}
use Rattle.bus.specs.Source.{tick_due, state_offer, calmed}
use Rattle.mirror.specs.Engine.{cause_of, answered, no_source}
use Rattle.mirror.specs.declared.engine.Engine.{Engine}
use Rattle.mirror.specs.declared.engine.Outcome.{Outcome}

-- a state-only item for the source of number k, if it is due
unfoldable pub tick_source : Engine → ℕ → Time → Engine
tick_source e k t =
    let s = get_or e.sources k no_source in
    record {
      count = e.count;
      sources = set e.sources k (calmed s);
      framer = pick (tick_due s) (add e.framer t (state_offer s) []) e.framer;
    }

-- n sources from number k on, in order of source number
abbrev pub states_of : ℕ → ℕ → Engine → Time → Engine
states_of zero k e t = e
states_of (suc n) k e t = states_of n (suc k) (tick_source e k t) t

-- then the deadline
unfoldable pub ticked : Engine → Time → Engine
ticked e t =
    let x = states_of e.count 0 e t in
    record { count = x.count; sources = x.sources; framer = passed x.framer t }

-- tick: 19, 7; how far the clock is behind is measured from the frame as the tick found it, before its state items
unfoldable pub tick_cause : Engine → Time → Result Unit Cause
tick_cause e t = cause_of e (guard (time_ok t) Cause.BadTime (Ok tt))

unfoldable pub tick_of : Engine → Time → Outcome Nanos
tick_of e t = answered e (tick_cause e t) (back_for e.framer.meter t) (ticked e t)
