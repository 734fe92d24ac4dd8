-- Reports (docs/RULES.md, "Answers", "Frame bytes", rules 4 and 5).
use Rattle.std.specs.Prelude.{ℕ, ◌+◌, ◌%◌, Bool, true, false, not, ◌&&◌, ◌||◌, leb, ltb, eqb, Some, Result, Ok}
use Rattle.std.specs.Int.Bits.{bit_and, bit_or}
use Rattle.codec.specs.Choice.{pick}
use Rattle.codec.specs.Time.{time_ok}
use Rattle.codec.specs.Ident.{ident_ok, kind_of, most_of, channels_ok, flexray_range}
use Rattle.codec.specs.Item.{item_length}
use Rattle.codec.specs.declared.time.Time.{Time}
use Rattle.codec.specs.declared.ident.Ident.{Ident}
use Rattle.framer.specs.Cause.{guard}
use Rattle.framer.specs.declared.cause.Cause.{Cause}
use Rattle.framer.specs.declared.offer.Offer.{Offer}
use Rattle.bus.specs.Filter.{filtered, same_kind}
use Rattle.bus.specs.Source.{due, passes}
use Rattle.bus.specs.declared.source.Source.{Source}
use Rattle.bus.specs.declared.report.Report.{Report}

-- a CAN frame carries id and payload and has no frame-bound state (rule 5)
unfoldable pub can_report : ℕ → Time → ℕ → Report
can_report source t key = record {
  source = source;
  time = t;
  ident = Ident.Can key;
  carries = true;
  ranged = ident_ok (Ident.Can key);
  kept = 255;
  raised = 0;
}

-- a LIN frame writes its four error bits, any mix; a number in range is its own remainder
unfoldable pub lin_report : ℕ → Time → ℕ → ℕ → Report
lin_report source t pid errors = record {
  source = source;
  time = t;
  ident = Ident.Lin (pid % 256);
  carries = true;
  ranged = ident_ok (Ident.Lin pid) && leb errors 15;
  kept = 240;
  raised = errors % 256;
}

-- what reports of FlexRay have in common
unfoldable pub flexray_report : ℕ → Time → ℕ → ℕ → ℕ → Bool → ℕ → ℕ → Report
flexray_report source t channels slot cycle carries kept raised = record {
  source = source;
  time = t;
  ident = Ident.FlexRay (channels % 256) (slot % 65536) (cycle % 256);
  carries = carries;
  ranged = flexray_range channels slot cycle;
  kept = kept;
  raised = raised;
}

-- a FlexRay frame carries id and payload and has no frame-bound state (rule 5)
abbrev pub frame_report : ℕ → Time → ℕ → ℕ → ℕ → Report
frame_report source t channels slot cycle = flexray_report source t channels slot cycle true 255 0

-- a conflict carries id and state, and raises the Tx conflict bit, bit 0 (rules 4 and 5; SWS_Mirror_00094)
abbrev pub conflict_report : ℕ → Time → ℕ → ℕ → ℕ → Report
conflict_report source t channels slot cycle = flexray_report source t channels slot cycle false 254 1

-- syntax error 8, content error 4, boundary violation 2, any mix and also none (SWS_Mirror_00091 to 00093)
unfoldable pub error_bits : ℕ → Bool
error_bits bits = leb bits 15 && eqb (bits % 2) 0

-- an error without a frame writes bits 3 to 1 and leaves bit 0; a number in range is its own remainder (rules 4 and 5;
-- SWS_Mirror_00146, 00159)
unfoldable pub error_report : ℕ → Time → ℕ → ℕ → Report
error_report source t channels bits = record {
  source = source;
  time = t;
  ident = Ident.FlexRayError (channels % 256);
  carries = false;
  ranged = channels_ok channels && error_bits bits;
  kept = 241;
  raised = bits % 256;
}

-- the item, counted with a state byte, plus 14 exceeds F (answer 8)
unfoldable pub too_big : ℕ → Report → ℕ → Bool
too_big f r n = ltb f (14 + item_length (record {
  offset = record { 0 = 0 };
  network = 0;
  state = Some 0;
  ident = r.ident;
  carries = r.carries;
}) n)

-- reports: 7, 2, 4, 3, 5, 6, 1, 8
unfoldable pub report_cause : ℕ → ℕ → Source → Report → ℕ → Result Unit Cause
report_cause count f s r n =
    guard (time_ok r.time) Cause.BadTime
    (guard (ltb r.source count) Cause.NoSource
    (guard (same_kind s.kind (kind_of r.ident)) Cause.OtherKind
    (guard s.started Cause.NotStarted
    (guard r.ranged Cause.OutOfRange
    (guard (leb n (most_of r.ident)) Cause.PayloadTooLong
    (guard (not (filtered r.ident) || passes s.places r.ident) Cause.Unmatched
    (guard (not (too_big f r n)) Cause.TooBig
    (Ok tt))))))))

-- the frame-bound bits are written, which makes the byte known (rule 4)
unfoldable pub noted : Source → Report → Source
noted s r = record {
  kind = s.kind;
  network = s.network;
  started = s.started;
  state = bit_or (bit_and s.state r.kept) r.raised;
  known = s.known || ltb r.kept 255;
  shown = s.shown;
  heard = s.heard;
  places = s.places;
}

-- a raised bit is never left out, and a report without a payload is there to tell the state (rules 4 and 5)
abbrev pub insists : Report → Bool
insists r = ltb 0 r.raised || not r.carries

-- what is to be mirrored (rules 4 and 5)
unfoldable pub offer_of : Source → Report → Offer
offer_of s r = record {
  network = s.network;
  ident = r.ident;
  carries = r.carries;
  state = (noted s r).state;
  due = due (noted s r) || insists r;
}

-- after the item: frame-bound bits are clear, the byte counts as shown, a report was accepted (rules 4 and 6)
unfoldable pub settled : Source → Report → Source
settled s r = record {
  kind = s.kind;
  network = s.network;
  started = s.started;
  state = bit_and (noted s r).state r.kept;
  known = (noted s r).known;
  shown = pick (offer_of s r).due (Some (noted s r).state) s.shown;
  heard = true;
  places = s.places;
}
