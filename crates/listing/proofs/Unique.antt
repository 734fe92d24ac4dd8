-- Any two outcomes that a public function's own contract permits coincide.
use mathlib.Core.Path.{◌≡◌, sym, ◌∙◌, ap}
use Prim.Native.Nat.{ℕ}
use Rattle.listing.proofs.line.frame.Reads as frame
use Rattle.listing.proofs.line.item.Reads as item
use Rattle.listing.proofs.escape.note.Reads as note
use Rattle.listing.proofs.line.start.Reads as start
use Rattle.listing.proofs.line.refused.Reads as refused
use Rattle.listing.proofs.line.skipped.Reads as skipped
use Rattle.listing.proofs.line.end.Reads as end
use Rattle.listing.proofs.field.lines.Reads as lines
use Rattle.listing.specs.declared.field.Cursor.{Cursor}
use Rattle.std.specs.Prelude.{Option}
use Rattle.codec.specs.declared.time.Time.{Time}
use Rattle.listing.specs.Field.{Text}

pub frame_unique : (κs : _) (a : _) (r r' : _) (x x' : _) → frame.Post κs a r x → frame.Post κs a r' x' → (r ≡ r') × (x.0.now ≡ x'.0.now)
frame_unique κs a r r' x x' p q = (p.answer ∙ sym q.answer, p.list ∙ sym q.list)

pub item_unique : (κs : _) (a : _) (r r' : _) (x x' : _) → item.Post κs a r x → item.Post κs a r' x' → (r ≡ r') × (x.0.now ≡ x'.0.now)
item_unique κs a r r' x x' p q = (p.answer ∙ sym q.answer, p.list ∙ sym q.list)

pub note_unique : (κs : _) (a : _) (r r' : _) (x x' : _) → note.Post κs a r x → note.Post κs a r' x' → (r ≡ r') × (x.0.now ≡ x'.0.now)
note_unique κs a r r' x x' p q = (p.answer ∙ sym q.answer, p.list ∙ sym q.list)

pub start_unique : (κs : _) (a : _) (r r' : _) (x x' : _) → start.Post κs a r x → start.Post κs a r' x' → (r ≡ r') × (x.0.now ≡ x'.0.now)
start_unique κs a r r' x x' p q = (p.answer ∙ sym q.answer, p.list ∙ sym q.list)

pub refused_unique : (κs : _) (a : _) (r r' : _) (x x' : _) → refused.Post κs a r x → refused.Post κs a r' x' → (r ≡ r') × (x.0.now ≡ x'.0.now)
refused_unique κs a r r' x x' p q = (p.answer ∙ sym q.answer, p.list ∙ sym q.list)

pub skipped_unique : (κs : _) (a : _) (r r' : _) (x x' : _) → skipped.Post κs a r x → skipped.Post κs a r' x' → (r ≡ r') × (x.0.now ≡ x'.0.now)
skipped_unique κs a r r' x x' p q = (p.answer ∙ sym q.answer, p.list ∙ sym q.list)

pub end_unique : (κs : _) (a : _) (r r' : _) (x x' : _) → end.Post κs a r x → end.Post κs a r' x' → (r ≡ r') × (x.0.now ≡ x'.0.now)
end_unique κs a r r' x x' p q = (p.answer ∙ sym q.answer, p.list ∙ sym q.list)

pub lines_unique : (κs : _) (a : _) (r r' : _) (x x' : _) → lines.Post κs a r x → lines.Post κs a r' x' → (r ≡ r') × (x.0.now ≡ x'.0.now)
lines_unique κs a r r' x x' p q =
    let e = p.0 ∙ sym q.0 in
    (same (ap (λ (t : Text). t.at) e) (p.1 ∙ sym q.1), ap (λ (t : Text). t.bytes) e)
  where
    same : {c d : Cursor} → c.at ≡ d.at → c.start ≡ d.start → c ≡ d
    same {c} {d} f g = ap (λ (n : ℕ). record { at = n; start = c.start }) f ∙ ap (λ (w : Option Time). record { at = d.at; start = w }) g
