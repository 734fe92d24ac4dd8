-- Any two outcomes that a public function's own contract permits coincide.
use mathlib.Core.Path.{◌≡◌, sym, ◌∙◌}
use Rattle.bus.proofs.filter.low16.Reads as low16
use Rattle.bus.proofs.filter.filter_matches.Reads as filter-matches
use Rattle.bus.proofs.filter.filtered.Reads as filtered
use Rattle.bus.proofs.filter.is_free.Reads as is_free
use Rattle.bus.proofs.filter.can_mask.Reads as can-mask
use Rattle.bus.proofs.filter.can_range.Reads as can-range
use Rattle.bus.proofs.filter.lin_mask.Reads as lin-mask
use Rattle.bus.proofs.filter.lin_range.Reads as lin-range
use Rattle.bus.proofs.filter.slots.Reads as slots
use Rattle.bus.proofs.report.can.Reads as report-can
use Rattle.bus.proofs.report.lin.Reads as report-lin
use Rattle.bus.proofs.report.flexray.Reads as report-flexray
use Rattle.bus.proofs.report.conflict.Reads as conflict
use Rattle.bus.proofs.report.error.Reads as error
use Rattle.bus.proofs.report.report_cause.Reads as report-cause
use Rattle.bus.proofs.report.offer.Reads as offer
use Rattle.bus.proofs.report.settle.Reads as settle
use Rattle.bus.proofs.source.fresh.Reads as fresh
use Rattle.bus.proofs.source.Source.reset.Reads as reset
use Rattle.bus.proofs.source.Source.start.Reads as start
use Rattle.bus.proofs.source.Source.stop.Reads as stop
use Rattle.bus.proofs.source.Source.passes.Reads as passes
use Rattle.bus.proofs.source.Source.free_place.Reads as free-place
use Rattle.bus.proofs.source.Source.place_for.Reads as place-for
use Rattle.bus.proofs.source.Source.add_filter.Reads as add-filter
use Rattle.bus.proofs.source.Source.remove_cause.Reads as remove-cause
use Rattle.bus.proofs.source.Source.remove_filter.Reads as remove-filter
use Rattle.bus.proofs.source.Source.due.Reads as due
use Rattle.bus.proofs.source.Source.tick_due.Reads as tick-due
use Rattle.bus.proofs.source.Source.state_offer.Reads as state-offer
use Rattle.bus.proofs.source.Source.calm.Reads as calm
use Rattle.bus.proofs.update.can.Reads as update-can
use Rattle.bus.proofs.update.lin.Reads as update-lin
use Rattle.bus.proofs.update.flexray.Reads as update-flexray
use Rattle.bus.proofs.update.update_cause.Reads as update-cause
use Rattle.bus.proofs.update.apply.Reads as apply

pub low16_unique : (κs : _) (a : _) (r r' : _) (x x' : _) → low16.Post κs a r x → low16.Post κs a r' x' → r ≡ r'
low16_unique κs a r r' x x' p q = p ∙ sym q

pub filter_matches_unique : (κs : _) (a : _) (r r' : _) (x x' : _) → filter-matches.Post κs a r x → filter-matches.Post κs a r' x' → r ≡ r'
filter_matches_unique κs a r r' x x' p q = p ∙ sym q

pub filtered_unique : (κs : _) (a : _) (r r' : _) (x x' : _) → filtered.Post κs a r x → filtered.Post κs a r' x' → r ≡ r'
filtered_unique κs a r r' x x' p q = p ∙ sym q

pub is_free_unique : (κs : _) (a : _) (r r' : _) (x x' : _) → is_free.Post κs a r x → is_free.Post κs a r' x' → r ≡ r'
is_free_unique κs a r r' x x' p q = p ∙ sym q

pub can_mask_unique : (κs : _) (a : _) (r r' : _) (x x' : _) → can-mask.Post κs a r x → can-mask.Post κs a r' x' → r ≡ r'
can_mask_unique κs a r r' x x' p q = p ∙ sym q

pub can_range_unique : (κs : _) (a : _) (r r' : _) (x x' : _) → can-range.Post κs a r x → can-range.Post κs a r' x' → r ≡ r'
can_range_unique κs a r r' x x' p q = p ∙ sym q

pub lin_mask_unique : (κs : _) (a : _) (r r' : _) (x x' : _) → lin-mask.Post κs a r x → lin-mask.Post κs a r' x' → r ≡ r'
lin_mask_unique κs a r r' x x' p q = p ∙ sym q

pub lin_range_unique : (κs : _) (a : _) (r r' : _) (x x' : _) → lin-range.Post κs a r x → lin-range.Post κs a r' x' → r ≡ r'
lin_range_unique κs a r r' x x' p q = p ∙ sym q

pub slots_unique : (κs : _) (a : _) (r r' : _) (x x' : _) → slots.Post κs a r x → slots.Post κs a r' x' → r ≡ r'
slots_unique κs a r r' x x' p q = p ∙ sym q

pub report_can_unique : (κs : _) (a : _) (r r' : _) (x x' : _) → report-can.Post κs a r x → report-can.Post κs a r' x' → r ≡ r'
report_can_unique κs a r r' x x' p q = p ∙ sym q

pub report_lin_unique : (κs : _) (a : _) (r r' : _) (x x' : _) → report-lin.Post κs a r x → report-lin.Post κs a r' x' → r ≡ r'
report_lin_unique κs a r r' x x' p q = p ∙ sym q

pub report_flexray_unique : (κs : _) (a : _) (r r' : _) (x x' : _) → report-flexray.Post κs a r x → report-flexray.Post κs a r' x' → r ≡ r'
report_flexray_unique κs a r r' x x' p q = p ∙ sym q

pub conflict_unique : (κs : _) (a : _) (r r' : _) (x x' : _) → conflict.Post κs a r x → conflict.Post κs a r' x' → r ≡ r'
conflict_unique κs a r r' x x' p q = p ∙ sym q

pub error_unique : (κs : _) (a : _) (r r' : _) (x x' : _) → error.Post κs a r x → error.Post κs a r' x' → r ≡ r'
error_unique κs a r r' x x' p q = p ∙ sym q

pub report_cause_unique : (κs : _) (a : _) (r r' : _) (x x' : _) → report-cause.Post κs a r x → report-cause.Post κs a r' x' → r ≡ r'
report_cause_unique κs a r r' x x' p q = p ∙ sym q

pub offer_unique : (κs : _) (a : _) (r r' : _) (x x' : _) → offer.Post κs a r x → offer.Post κs a r' x' → r ≡ r'
offer_unique κs a r r' x x' p q = p ∙ sym q

pub settle_unique : (κs : _) (a : _) (r r' : _) (x x' : _) → settle.Post κs a r x → settle.Post κs a r' x' → r ≡ r'
settle_unique κs a r r' x x' p q = p ∙ sym q

pub fresh_unique : (κs : _) (a : _) (r r' : _) (x x' : _) → fresh.Post κs a r x → fresh.Post κs a r' x' → r ≡ r'
fresh_unique κs a r r' x x' p q = p ∙ sym q

pub reset_unique : (κs : _) (a : _) (r r' : _) (x x' : _) → reset.Post κs a r x → reset.Post κs a r' x' → r ≡ r'
reset_unique κs a r r' x x' p q = p ∙ sym q

pub start_unique : (κs : _) (a : _) (r r' : _) (x x' : _) → start.Post κs a r x → start.Post κs a r' x' → r ≡ r'
start_unique κs a r r' x x' p q = p ∙ sym q

pub stop_unique : (κs : _) (a : _) (r r' : _) (x x' : _) → stop.Post κs a r x → stop.Post κs a r' x' → r ≡ r'
stop_unique κs a r r' x x' p q = p ∙ sym q

pub passes_unique : (κs : _) (a : _) (r r' : _) (x x' : _) → passes.Post κs a r x → passes.Post κs a r' x' → r ≡ r'
passes_unique κs a r r' x x' p q = p ∙ sym q

pub free_place_unique : (κs : _) (a : _) (r r' : _) (x x' : _) → free-place.Post κs a r x → free-place.Post κs a r' x' → r ≡ r'
free_place_unique κs a r r' x x' p q = p ∙ sym q

pub place_for_unique : (κs : _) (a : _) (r r' : _) (x x' : _) → place-for.Post κs a r x → place-for.Post κs a r' x' → r ≡ r'
place_for_unique κs a r r' x x' p q = p ∙ sym q

pub add_filter_unique : (κs : _) (a : _) (r r' : _) (x x' : _) → add-filter.Post κs a r x → add-filter.Post κs a r' x' → r ≡ r'
add_filter_unique κs a r r' x x' p q = p ∙ sym q

pub remove_cause_unique : (κs : _) (a : _) (r r' : _) (x x' : _) → remove-cause.Post κs a r x → remove-cause.Post κs a r' x' → r ≡ r'
remove_cause_unique κs a r r' x x' p q = p ∙ sym q

pub remove_filter_unique : (κs : _) (a : _) (r r' : _) (x x' : _) → remove-filter.Post κs a r x → remove-filter.Post κs a r' x' → r ≡ r'
remove_filter_unique κs a r r' x x' p q = p ∙ sym q

pub due_unique : (κs : _) (a : _) (r r' : _) (x x' : _) → due.Post κs a r x → due.Post κs a r' x' → r ≡ r'
due_unique κs a r r' x x' p q = p ∙ sym q

pub tick_due_unique : (κs : _) (a : _) (r r' : _) (x x' : _) → tick-due.Post κs a r x → tick-due.Post κs a r' x' → r ≡ r'
tick_due_unique κs a r r' x x' p q = p ∙ sym q

pub state_offer_unique : (κs : _) (a : _) (r r' : _) (x x' : _) → state-offer.Post κs a r x → state-offer.Post κs a r' x' → r ≡ r'
state_offer_unique κs a r r' x x' p q = p ∙ sym q

pub calm_unique : (κs : _) (a : _) (r r' : _) (x x' : _) → calm.Post κs a r x → calm.Post κs a r' x' → r ≡ r'
calm_unique κs a r r' x x' p q = p ∙ sym q

pub update_can_unique : (κs : _) (a : _) (r r' : _) (x x' : _) → update-can.Post κs a r x → update-can.Post κs a r' x' → r ≡ r'
update_can_unique κs a r r' x x' p q = p ∙ sym q

pub update_lin_unique : (κs : _) (a : _) (r r' : _) (x x' : _) → update-lin.Post κs a r x → update-lin.Post κs a r' x' → r ≡ r'
update_lin_unique κs a r r' x x' p q = p ∙ sym q

pub update_flexray_unique : (κs : _) (a : _) (r r' : _) (x x' : _) → update-flexray.Post κs a r x → update-flexray.Post κs a r' x' → r ≡ r'
update_flexray_unique κs a r r' x x' p q = p ∙ sym q

pub update_cause_unique : (κs : _) (a : _) (r r' : _) (x x' : _) → update-cause.Post κs a r x → update-cause.Post κs a r' x' → r ≡ r'
update_cause_unique κs a r r' x x' p q = p ∙ sym q

pub apply_unique : (κs : _) (a : _) (r r' : _) (x x' : _) → apply.Post κs a r x → apply.Post κs a r' x' → r ≡ r'
apply_unique κs a r r' x x' p q = p ∙ sym q
