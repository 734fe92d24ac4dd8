-- Any two outcomes that a public function's own contract permits coincide.
use Rattle.std.proofs.Common.{◌≡◌, sym, ◌∙◌}
use Rattle.framer.proofs.cause.check.Reads as check
use Rattle.framer.proofs.cause.U8FromCause.from.Reads as cause-number
use Rattle.framer.proofs.meter.Meter.sound.Reads as sound
use Rattle.framer.proofs.meter.limits_ok.Reads as limits-ok
use Rattle.framer.proofs.meter.Meter.back_for.Reads as back-for
use Rattle.framer.proofs.framer.empty.Reads as empty
use Rattle.framer.proofs.framer.Framer.add.Reads as add
use Rattle.framer.proofs.framer.Framer.pass.Reads as pass
use Rattle.framer.proofs.framer.Framer.take.Reads as take
use Rattle.framer.proofs.framer.Framer.fail.Reads as fail

pub check_unique : (κs : _) (a : _) (r r' : _) (x x' : _) → check.Post κs a r x → check.Post κs a r' x' → r ≡ r'
check_unique κs a r r' x x' p q = p ∙ sym q

pub cause_number_unique : (κs : _) (a : _) (r r' : _) (x x' : _) → cause-number.Post κs a r x → cause-number.Post κs a r' x' → r ≡ r'
cause_number_unique κs a r r' x x' p q = p ∙ sym q

pub sound_unique : (κs : _) (a : _) (r r' : _) (x x' : _) → sound.Post κs a r x → sound.Post κs a r' x' → r ≡ r'
sound_unique κs a r r' x x' p q = p ∙ sym q

pub limits_ok_unique : (κs : _) (a : _) (r r' : _) (x x' : _) → limits-ok.Post κs a r x → limits-ok.Post κs a r' x' → r ≡ r'
limits_ok_unique κs a r r' x x' p q = p ∙ sym q

pub back_for_unique : (κs : _) (a : _) (r r' : _) (x x' : _) → back-for.Post κs a r x → back-for.Post κs a r' x' → r ≡ r'
back_for_unique κs a r r' x x' p q = p ∙ sym q

pub empty_unique : (κs : _) (a : _) (r r' : _) (x x' : _) → empty.Post κs a r x → empty.Post κs a r' x' → r ≡ r'
empty_unique κs a r r' x x' p q = p ∙ sym q

pub add_unique : (κs : _) (a : _) (r r' : _) (x x' : _) → add.Post κs a r x → add.Post κs a r' x' → r ≡ r'
add_unique κs a r r' x x' p q = p ∙ sym q

pub pass_unique : (κs : _) (a : _) (r r' : _) (x x' : _) → pass.Post κs a r x → pass.Post κs a r' x' → r ≡ r'
pass_unique κs a r r' x x' p q = p ∙ sym q

pub take_unique : (κs : _) (a : _) (r r' : _) (x x' : _) → take.Post κs a r x → take.Post κs a r' x' → (r ≡ r') × (x.1.0.now ≡ x'.1.0.now)
take_unique κs a r r' x x' p q = (p.0 ∙ sym q.0, p.1 ∙ sym q.1)

pub fail_unique : (κs : _) (a : _) (r r' : _) (x x' : _) → fail.Post κs a r x → fail.Post κs a r' x' → r ≡ r'
fail_unique κs a r r' x x' p q = p ∙ sym q
