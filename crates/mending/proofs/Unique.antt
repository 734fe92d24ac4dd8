-- Any two outcomes that a public function's own contract permits coincide.
use mathlib.Core.Path.{◌≡◌, sym, ◌∙◌}
use Rattle.mending.proofs.copy.next.Reads as next
use Rattle.mending.proofs.copy.kept.Reads as kept
use Rattle.mending.proofs.check.count.Reads as count
use Rattle.mending.proofs.check.line.Reads as line
use Rattle.mending.proofs.check.rest.Reads as rest
use Rattle.mending.proofs.check.fields.Reads as fields

pub next_unique : (κs : _) (a : _) (r r' : _) (x x' : _) → next.Post κs a r x → next.Post κs a r' x'
    → (r ≡ r') × ((x.1.0.now ≡ x'.1.0.now) × (x.1.1.0.now ≡ x'.1.1.0.now))
next_unique κs a r r' x x' p q = (p.0 ∙ sym q.0, (p.1.0 ∙ sym q.1.0, p.1.1 ∙ sym q.1.1))

pub kept_unique : (κs : _) (a : _) (r r' : _) (x x' : _) → kept.Post κs a r x → kept.Post κs a r' x' → r.now ≡ r'.now
kept_unique κs a r r' x x' p q = p ∙ sym q

pub count_unique : (κs : _) (a : _) (r r' : _) (x x' : _) → count.Post κs a r x → count.Post κs a r' x' → r ≡ r'
count_unique κs a r r' x x' p q = p ∙ sym q

pub line_unique : (κs : _) (a : _) (r r' : _) (x x' : _) → line.Post κs a r x → line.Post κs a r' x' → (r ≡ r') × (x.0.now ≡ x'.0.now)
line_unique κs a r r' x x' p q = (p.answer ∙ sym q.answer, p.list ∙ sym q.list)

pub rest_unique : (κs : _) (a : _) (r r' : _) (x x' : _) → rest.Post κs a r x → rest.Post κs a r' x' → (r ≡ r') × (x.0.now ≡ x'.0.now)
rest_unique κs a r r' x x' p q = (p.answer ∙ sym q.answer, p.list ∙ sym q.list)

pub fields_unique : (κs : _) (a : _) (r r' : _) (x x' : _) → fields.Post κs a r x → fields.Post κs a r' x' → (r ≡ r') × (x.0.now ≡ x'.0.now)
fields_unique κs a r r' x x' p q = (p.answer ∙ sym q.answer, p.list ∙ sym q.list)
