-- Reports (rules 1 to 5).
use Rattle.std.specs.Prelude.{ℕ, List, length}
use Rattle.codec.specs.declared.time.Nanos.{Nanos}
use Rattle.framer.specs.Meter.{back_for}
use Rattle.framer.specs.Framer.{add}
use Rattle.bus.specs.Report.{report_cause, offer_of, settled}
use Rattle.bus.specs.declared.report.Report.{Report}
use Rattle.mirror.specs.Engine.{cause_of, answered, source_at, with_source}
use Rattle.mirror.specs.declared.engine.Engine.{Engine}
use Rattle.mirror.specs.declared.engine.Outcome.{Outcome}

-- an accepted report makes one item, and leaves its mark on its source
unfoldable pub reported : Engine → Report → List ℕ → Engine
reported e r payload =
    let s = source_at e r.source in
    with_source e r.source (settled s r) (add e.framer r.time (offer_of s r) payload)

-- reports: 19, 7, 2, 4, 3, 5, 6, 1, 8; how far the clock is behind is measured from the frame as the report found it
unfoldable pub report_of : Engine → Report → List ℕ → Outcome Nanos
report_of e r payload =
    answered e (cause_of e (report_cause e.count e.framer.meter.size (source_at e r.source) r (length payload)))
    (back_for e.framer.meter r.time) (reported e r payload)
