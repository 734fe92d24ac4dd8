-- State updates (docs/RULES.md, "Frame bytes"; Specification of Bus Mirroring, 7.4.2.2.7).
use Rattle.std.specs.Prelude.{ℕ, ◌+◌, ◌*◌, ◌/◌, ◌%◌, min, Bool, true, not, ◌&&◌, leb, ltb, eqb, Result, Ok}
use Rattle.codec.specs.Choice.{pick, bit}
use Rattle.codec.specs.declared.ident.Kind.{Kind}
use Rattle.framer.specs.Cause.{guard}
use Rattle.framer.specs.declared.cause.Cause.{Cause}
use Rattle.bus.specs.Filter.{same_kind}
use Rattle.bus.specs.declared.source.Source.{Source}
use Rattle.bus.specs.declared.update.Update.{Update}

-- the Tx error counter divided by 8, cut to 15 (SWS_Mirror_00083)
unfoldable pub counter_bits : ℕ → ℕ
counter_bits counter = min (counter / 8) 15

-- bit 6 online, bit 5 error-passive, bit 4 bus-off, bits 3 to 0 the counter; offline makes all of them zero
unfoldable pub can_byte : Bool → Bool → Bool → ℕ → ℕ
can_byte online passive busOff counter = pick online (64 + bit passive * 32 + bit busOff * 16 + counter_bits counter) 0

-- error-passive with bus-off, and a counter over 255, are out of range (answer 5)
unfoldable pub can_update : ℕ → Bool → Bool → Bool → ℕ → Update
can_update source online passive busOff counter = record {
  source = source;
  kind = Kind.Can;
  good = not (passive && busOff) && leb counter 255;
  state = can_byte online passive busOff counter;
}

-- online only
unfoldable pub lin_update : ℕ → Bool → Update
lin_update source online = record { source = source; kind = Kind.Lin; good = true; state = bit online * 64 }

-- online and bits 5 and 4; the frame-bound bits, 3 to 0, are clear; bits in range are their own remainder
unfoldable pub flexray_update : ℕ → Bool → ℕ → Update
flexray_update source online bits = record {
  source = source;
  kind = Kind.FlexRay;
  good = leb bits 63 && eqb (bits % 16) 0;
  state = bit online * 64 + bits % 64;
}

-- state updates: 2, 4, 3, 5
unfoldable pub update_cause : ℕ → Source → Update → Result Unit Cause
update_cause count s u =
    guard (ltb u.source count) Cause.NoSource
    (guard (same_kind s.kind u.kind) Cause.OtherKind
    (guard s.started Cause.NotStarted
    (guard u.good Cause.OutOfRange
    (Ok tt))))

-- an update makes the byte known (rule 4)
unfoldable pub updated : Source → Update → Source
updated s u = record {
  kind = s.kind;
  network = s.network;
  started = s.started;
  state = u.state;
  known = true;
  shown = s.shown;
  heard = s.heard;
  places = s.places;
}
