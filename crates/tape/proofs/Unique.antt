-- Any two outcomes that a public function's own contract permits coincide.
use mathlib.Core.Path.{◌≡◌, sym, ◌∙◌}
use Rattle.tape.proofs.microphone.after.Reads as after
use Rattle.tape.proofs.sample.position.Reads as position
use Rattle.tape.proofs.sample.U8FromTooFar.from.Reads as number

pub position_unique : (κs : _) (a : _) (r r' : _) (x x' : _) → position.Post κs a r x → position.Post κs a r' x' → r ≡ r'
position_unique κs a r r' x x' p q = p ∙ sym q

pub after_unique : (κs : _) (a : _) (r r' : _) (x x' : _) → after.Post κs a r x → after.Post κs a r' x' → r ≡ r'
after_unique κs a r r' x x' p q = p ∙ sym q

pub number_unique : (κs : _) (a : _) (r r' : _) (x x' : _) → number.Post κs a r x → number.Post κs a r' x' → r ≡ r'
number_unique κs a r r' x x' p q = p ∙ sym q
