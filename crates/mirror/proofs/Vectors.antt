-- The table of P1 to P13 holds: every row is computed. Assumes nothing.
use mathlib.Core.Path.{refl}
use Rattle.codec.specs.Number.{fits}
use Rattle.codec.specs.Time.{ticks_of, elapsed, overdue_of}
use Rattle.codec.specs.Ident as Ident
use Rattle.codec.specs.Ident.{can_zero, can_fd, even_parity, odd_parity, pid_ok, flexray_range}
use Rattle.codec.specs.Header.{header_bytes}
use Rattle.codec.specs.Item.{lin_zero, item_ok, encode}
use Rattle.codec.specs.Field.{bytes_at}
use Rattle.framer.specs.Meter as Meter
use Rattle.framer.specs.Meter.{limits_ok, sound_meter, empty_meter, state_shown, item_of, offset_for, back_for, closes_for, slot_of, counted, closed_meter}
use Rattle.framer.specs.Meter.{placed_meter, taken_meter, failed_meter}
use Rattle.framer.specs.Queue.{empty_queue, held, queued, length_at}
use Rattle.framer.specs.Framer.{written, empty_framer, closed, begun, laid_out, item_size, placed, filled_meter, filled_bytes, added, add, passed, ready_of, take_of, out_of, failed}
use Rattle.bus.specs.Filter.{cycled, same_kind, can_range, lin_range, slots_of}
use Rattle.bus.specs.Source.{fresh_source, reset_source, started_source, add_cause, added_filter, due, tick_due, state_offer, calmed}
use Rattle.bus.specs.Report.{can_report, lin_report, flexray_report, error_bits, error_report, too_big, report_cause, noted, offer_of, settled}
use Rattle.bus.specs.Update.{counter_bits, can_byte, can_update, flexray_update, update_cause, updated}
use Rattle.mirror.specs.Engine.{no_sources, fresh_engine, sound_of, cause_of, source_cause, index_of, source_at, with_source}
use Rattle.mirror.specs.Engine.{discards_of, failures_of}
use Rattle.mirror.specs.Setup.{kind_numbered, source_numbered, pair_ok, sources_ok, setup_cause, setup_of, reset_of, switch_cause, switch_of, offline_of}
use Rattle.mirror.specs.Source.{start_of, update_of, add_of}
use Rattle.mirror.specs.Report.{reported, report_of}
use Rattle.mirror.specs.Tick.{tick_source, ticked, tick_cause, tick_of}
use Rattle.mirror.specs.Take.{taken_of, output_of}
use Rattle.mirror.specs.Failed.{failed_cause, failed_of}
use Rattle.mirror.specs.Vectors.{table, Holds}

pub vectors : Holds table
unfolding fits ticks_of elapsed overdue_of Ident.can_range can_zero can_fd even_parity odd_parity pid_ok flexray_range header_bytes lin_zero item_ok encode
    bytes_at limits_ok sound_meter empty_meter state_shown item_of offset_for back_for closes_for slot_of counted closed_meter Meter.start_of placed_meter taken_meter failed_meter
    empty_queue held queued length_at written empty_framer closed begun laid_out item_size placed filled_meter filled_bytes added add passed ready_of take_of out_of failed
    cycled same_kind can_range lin_range slots_of fresh_source reset_source started_source add_cause added_filter due tick_due state_offer calmed
    can_report lin_report flexray_report error_bits error_report too_big report_cause noted offer_of settled
    counter_bits can_byte can_update flexray_update update_cause updated
    no_sources fresh_engine sound_of cause_of source_cause index_of source_at with_source discards_of failures_of
    kind_numbered source_numbered pair_ok sources_ok setup_cause setup_of reset_of switch_cause switch_of offline_of start_of update_of add_of reported report_of
    tick_source ticked tick_cause tick_of taken_of output_of failed_cause failed_of
vectors = (refl, (refl, (refl, (refl, (refl, (refl, (refl, (refl, (refl, (refl, (refl, (refl, (refl, tt)))))))))))))
