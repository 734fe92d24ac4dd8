-- Any two outcomes that a public function's own contract permits coincide.
use mathlib.Core.Path.{◌≡◌, sym, ◌∙◌}
use Rattle.mirror.proofs.engine.fresh.Reads as fresh
use Rattle.mirror.proofs.engine.beside.Reads as beside
use Rattle.mirror.proofs.engine.Engine.discards.Reads as discards
use Rattle.mirror.proofs.engine.Engine.can.Reads as can
use Rattle.mirror.proofs.engine.Engine.lin.Reads as lin
use Rattle.mirror.proofs.engine.Engine.flexray.Reads as flexray
use Rattle.mirror.proofs.engine.Engine.conflict.Reads as conflict
use Rattle.mirror.proofs.engine.Engine.flexray_error.Reads as flexray-error
use Rattle.mirror.proofs.engine.Engine.setup.Reads as setup
use Rattle.mirror.proofs.engine.Engine.switch.Reads as switch
use Rattle.mirror.proofs.engine.Engine.offline.Reads as offline
use Rattle.mirror.proofs.engine.Engine.start.Reads as start
use Rattle.mirror.proofs.engine.Engine.stop.Reads as stop
use Rattle.mirror.proofs.engine.Engine.can_state.Reads as can-state
use Rattle.mirror.proofs.engine.Engine.lin_state.Reads as lin-state
use Rattle.mirror.proofs.engine.Engine.flexray_state.Reads as flexray-state
use Rattle.mirror.proofs.engine.Engine.can_mask.Reads as can-mask
use Rattle.mirror.proofs.engine.Engine.can_range.Reads as can-range
use Rattle.mirror.proofs.engine.Engine.lin_mask.Reads as lin-mask
use Rattle.mirror.proofs.engine.Engine.lin_range.Reads as lin-range
use Rattle.mirror.proofs.engine.Engine.slots.Reads as slots
use Rattle.mirror.proofs.engine.Engine.remove.Reads as remove
use Rattle.mirror.proofs.engine.Engine.take.Reads as take
use Rattle.mirror.proofs.engine.Engine.failed.Reads as failed
use Rattle.mirror.proofs.engine.Engine.failures.Reads as failures
use Rattle.mirror.proofs.engine.Engine.tick.Reads as tick

pub fresh_unique : (κs : _) (a : _) (r r' : _) (x x' : _) → fresh.Post κs a r x → fresh.Post κs a r' x' → r ≡ r'
fresh_unique κs a r r' x x' p q = p ∙ sym q

pub beside_unique : (κs : _) (a : _) (r r' : _) (x x' : _) → beside.Post κs a r x → beside.Post κs a r' x' → r ≡ r'
beside_unique κs a r r' x x' p q = p ∙ sym q

pub discards_unique : (κs : _) (a : _) (r r' : _) (x x' : _) → discards.Post κs a r x → discards.Post κs a r' x' → r ≡ r'
discards_unique κs a r r' x x' p q = p ∙ sym q

pub can_unique : (κs : _) (a : _) (r r' : _) (x x' : _) → can.Post κs a r x → can.Post κs a r' x' → r ≡ r'
can_unique κs a r r' x x' p q = p ∙ sym q

pub lin_unique : (κs : _) (a : _) (r r' : _) (x x' : _) → lin.Post κs a r x → lin.Post κs a r' x' → r ≡ r'
lin_unique κs a r r' x x' p q = p ∙ sym q

pub flexray_unique : (κs : _) (a : _) (r r' : _) (x x' : _) → flexray.Post κs a r x → flexray.Post κs a r' x' → r ≡ r'
flexray_unique κs a r r' x x' p q = p ∙ sym q

pub conflict_unique : (κs : _) (a : _) (r r' : _) (x x' : _) → conflict.Post κs a r x → conflict.Post κs a r' x' → r ≡ r'
conflict_unique κs a r r' x x' p q = p ∙ sym q

pub flexray_error_unique : (κs : _) (a : _) (r r' : _) (x x' : _) → flexray-error.Post κs a r x → flexray-error.Post κs a r' x' → r ≡ r'
flexray_error_unique κs a r r' x x' p q = p ∙ sym q

pub setup_unique : (κs : _) (a : _) (r r' : _) (x x' : _) → setup.Post κs a r x → setup.Post κs a r' x' → r ≡ r'
setup_unique κs a r r' x x' p q = p ∙ sym q

pub switch_unique : (κs : _) (a : _) (r r' : _) (x x' : _) → switch.Post κs a r x → switch.Post κs a r' x' → r ≡ r'
switch_unique κs a r r' x x' p q = p ∙ sym q

pub offline_unique : (κs : _) (a : _) (r r' : _) (x x' : _) → offline.Post κs a r x → offline.Post κs a r' x' → r ≡ r'
offline_unique κs a r r' x x' p q = p ∙ sym q

pub start_unique : (κs : _) (a : _) (r r' : _) (x x' : _) → start.Post κs a r x → start.Post κs a r' x' → r ≡ r'
start_unique κs a r r' x x' p q = p ∙ sym q

pub stop_unique : (κs : _) (a : _) (r r' : _) (x x' : _) → stop.Post κs a r x → stop.Post κs a r' x' → r ≡ r'
stop_unique κs a r r' x x' p q = p ∙ sym q

pub can_state_unique : (κs : _) (a : _) (r r' : _) (x x' : _) → can-state.Post κs a r x → can-state.Post κs a r' x' → r ≡ r'
can_state_unique κs a r r' x x' p q = p ∙ sym q

pub lin_state_unique : (κs : _) (a : _) (r r' : _) (x x' : _) → lin-state.Post κs a r x → lin-state.Post κs a r' x' → r ≡ r'
lin_state_unique κs a r r' x x' p q = p ∙ sym q

pub flexray_state_unique : (κs : _) (a : _) (r r' : _) (x x' : _) → flexray-state.Post κs a r x → flexray-state.Post κs a r' x' → r ≡ r'
flexray_state_unique κs a r r' x x' p q = p ∙ sym q

pub can_mask_unique : (κs : _) (a : _) (r r' : _) (x x' : _) → can-mask.Post κs a r x → can-mask.Post κs a r' x' → r ≡ r'
can_mask_unique κs a r r' x x' p q = p ∙ sym q

pub can_range_unique : (κs : _) (a : _) (r r' : _) (x x' : _) → can-range.Post κs a r x → can-range.Post κs a r' x' → r ≡ r'
can_range_unique κs a r r' x x' p q = p ∙ sym q

pub lin_mask_unique : (κs : _) (a : _) (r r' : _) (x x' : _) → lin-mask.Post κs a r x → lin-mask.Post κs a r' x' → r ≡ r'
lin_mask_unique κs a r r' x x' p q = p ∙ sym q

pub lin_range_unique : (κs : _) (a : _) (r r' : _) (x x' : _) → lin-range.Post κs a r x → lin-range.Post κs a r' x' → r ≡ r'
lin_range_unique κs a r r' x x' p q = p ∙ sym q

pub slots_unique : (κs : _) (a : _) (r r' : _) (x x' : _) → slots.Post κs a r x → slots.Post κs a r' x' → r ≡ r'
slots_unique κs a r r' x x' p q = p ∙ sym q

pub remove_unique : (κs : _) (a : _) (r r' : _) (x x' : _) → remove.Post κs a r x → remove.Post κs a r' x' → r ≡ r'
remove_unique κs a r r' x x' p q = p ∙ sym q

pub tick_unique : (κs : _) (a : _) (r r' : _) (x x' : _) → tick.Post κs a r x → tick.Post κs a r' x' → r ≡ r'
tick_unique κs a r r' x x' p q = p ∙ sym q

pub take_unique : (κs : _) (a : _) (r r' : _) (x x' : _) → take.Post κs a r x → take.Post κs a r' x' → (r ≡ r') × (x.1.0.now ≡ x'.1.0.now)
take_unique κs a r r' x x' p q = (p.0 ∙ sym q.0, p.1 ∙ sym q.1)

pub failed_unique : (κs : _) (a : _) (r r' : _) (x x' : _) → failed.Post κs a r x → failed.Post κs a r' x' → r ≡ r'
failed_unique κs a r r' x x' p q = p ∙ sym q

pub failures_unique : (κs : _) (a : _) (r r' : _) (x x' : _) → failures.Post κs a r x → failures.Post κs a r' x' → r ≡ r'
failures_unique κs a r r' x x' p q = p ∙ sym q
