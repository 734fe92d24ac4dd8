-- Any two outcomes that a public function's own contract permits coincide.
use mathlib.Core.Path.{◌≡◌, sym, ◌∙◌}
use Rattle.script.proofs.answer.judged.Reads as judged
use Rattle.script.proofs.answer.stepped.Reads as stepped
use Rattle.script.proofs.answer.bad.Reads as bad
use Rattle.script.proofs.answer.done.Reads as done
use Rattle.script.proofs.answer.numbered.Reads as numbered
use Rattle.script.proofs.answer.timed.Reads as timed
use Rattle.script.proofs.answer.with_bytes.Reads as with-bytes
use Rattle.script.proofs.answer.taken.Reads as taken
use Rattle.script.proofs.call.parse.Reads as parse
use Rattle.script.proofs.pairs.read.Reads as read
use Rattle.script.proofs.tape.parse.Reads as tape-parse
use Rattle.script.proofs.tape.is_note.Reads as is-note
use Rattle.script.proofs.tape.note_in.Reads as note-in

pub judged_unique : (κs : _) (a : _) (r r' : _) (x x' : _) → judged.Post κs a r x → judged.Post κs a r' x' → (r ≡ r') × (x.0.now ≡ x'.0.now)
judged_unique κs a r r' x x' p q = (p.answer ∙ sym q.answer, p.list ∙ sym q.list)

pub stepped_unique : (κs : _) (a : _) (r r' : _) (x x' : _) → stepped.Post κs a r x → stepped.Post κs a r' x' → (r ≡ r') × (x.0.now ≡ x'.0.now)
stepped_unique κs a r r' x x' p q = (p.answer ∙ sym q.answer, p.list ∙ sym q.list)

pub bad_unique : (κs : _) (a : _) (r r' : _) (x x' : _) → bad.Post κs a r x → bad.Post κs a r' x' → (r ≡ r') × (x.0.now ≡ x'.0.now)
bad_unique κs a r r' x x' p q = (p.answer ∙ sym q.answer, p.list ∙ sym q.list)

pub done_unique : (κs : _) (a : _) (r r' : _) (x x' : _) → done.Post κs a r x → done.Post κs a r' x' → (r ≡ r') × (x.0.now ≡ x'.0.now)
done_unique κs a r r' x x' p q = (p.answer ∙ sym q.answer, p.list ∙ sym q.list)

pub numbered_unique : (κs : _) (a : _) (r r' : _) (x x' : _) → numbered.Post κs a r x → numbered.Post κs a r' x' → (r ≡ r') × (x.0.now ≡ x'.0.now)
numbered_unique κs a r r' x x' p q = (p.answer ∙ sym q.answer, p.list ∙ sym q.list)

pub timed_unique : (κs : _) (a : _) (r r' : _) (x x' : _) → timed.Post κs a r x → timed.Post κs a r' x' → (r ≡ r') × (x.0.now ≡ x'.0.now)
timed_unique κs a r r' x x' p q = (p.answer ∙ sym q.answer, p.list ∙ sym q.list)

pub with_bytes_unique : (κs : _) (a : _) (r r' : _) (x x' : _) → with-bytes.Post κs a r x → with-bytes.Post κs a r' x' → (r ≡ r') × (x.0.now ≡ x'.0.now)
with_bytes_unique κs a r r' x x' p q = (p.answer ∙ sym q.answer, p.list ∙ sym q.list)

pub taken_unique : (κs : _) (a : _) (r r' : _) (x x' : _) → taken.Post κs a r x → taken.Post κs a r' x' → (r ≡ r') × (x.0.now ≡ x'.0.now)
taken_unique κs a r r' x x' p q = (p.answer ∙ sym q.answer, p.list ∙ sym q.list)

pub parse_unique : (κs : _) (a : _) (r r' : _) (x x' : _) → parse.Post κs a r x → parse.Post κs a r' x' → r ≡ r'
parse_unique κs a r r' x x' p q = p ∙ sym q

pub read_unique : (κs : _) (a : _) (r r' : _) (x x' : _) → read.Post κs a r x → read.Post κs a r' x' → (r ≡ r') × (x.1.0.now ≡ x'.1.0.now)
read_unique κs a r r' x x' p q = (p.answer ∙ sym q.answer, p.list ∙ sym q.list)

pub tape_parse_unique : (κs : _) (a : _) (r r' : _) (x x' : _) → tape-parse.Post κs a r x → tape-parse.Post κs a r' x' → r ≡ r'
tape_parse_unique κs a r r' x x' p q = p ∙ sym q

pub is_note_unique : (κs : _) (a : _) (r r' : _) (x x' : _) → is-note.Post κs a r x → is-note.Post κs a r' x' → r ≡ r'
is_note_unique κs a r r' x x' p q = p ∙ sym q

pub note_in_unique : (κs : _) (a : _) (r r' : _) (x x' : _) → note-in.Post κs a r x → note-in.Post κs a r' x' → r.now ≡ r'.now
note_in_unique κs a r r' x x' p q = p ∙ sym q
