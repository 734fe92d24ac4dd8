-- A send that failed (rule 8).
use Rattle.std.specs.Prelude.{Result, Ok}
use Rattle.framer.specs.Cause.{guard}
use Rattle.framer.specs.declared.cause.Cause.{Cause}
use Rattle.framer.specs.Framer.{failed}
use Rattle.mirror.specs.Engine.{cause_of, answered}
use Rattle.mirror.specs.declared.engine.Engine.{Engine}
use Rattle.mirror.specs.declared.engine.Outcome.{Outcome}

-- failed: 19, 17 (no frame is out: none was taken since setup, offline or switch, or the last one was called failed)
unfoldable pub failed_cause : Engine → Result Unit Cause
failed_cause e = cause_of e (guard e.framer.meter.out Cause.NothingOut (Ok tt))

unfoldable pub failed_of : Engine → Outcome Unit
failed_of e = answered e (failed_cause e) tt (record { count = e.count; sources = e.sources; framer = failed e.framer })
