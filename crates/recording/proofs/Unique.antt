-- Any two outcomes that a public function's own contract permits coincide.
use mathlib.Core.Path.{◌≡◌, sym, ◌∙◌}
use Rattle.recording.proofs.error.U8FromRecordError.from.Reads as number
use Rattle.recording.proofs.error.RecordErrorFromRefusal.from.Reads as refused
use Rattle.recording.proofs.tag.U8FromTag.from.Reads as byte
use Rattle.recording.proofs.tag.TagTryFromU8.try_from.Reads as tag
use Rattle.recording.proofs.field.short.Reads as short
use Rattle.recording.proofs.field.judge.Reads as judge
use Rattle.recording.proofs.field.kept.Reads as kept
use Rattle.recording.proofs.pieces.begin.Reads as begin
use Rattle.recording.proofs.pieces.next.Reads as next
use Rattle.recording.proofs.pieces.inside.Reads as inside
use Rattle.recording.proofs.pieces.finish.Reads as finish
use Rattle.recording.proofs.write.frame.Reads as frame
use Rattle.recording.proofs.write.note.Reads as note
use Rattle.recording.proofs.write.start.Reads as start

pub judge_unique : (κs : _) (a : _) (r r' : _) (x x' : _) → judge.Post κs a r x → judge.Post κs a r' x' → r ≡ r'
judge_unique κs a r r' x x' p q = p ∙ sym q

pub kept_unique : (κs : _) (a : _) (r r' : _) (x x' : _) → kept.Post κs a r x → kept.Post κs a r' x' → r ≡ r'
kept_unique κs a r r' x x' p q = p ∙ sym q

pub begin_unique : (κs : _) (a : _) (r r' : _) (x x' : _) → begin.Post κs a r x → begin.Post κs a r' x' → r ≡ r'
begin_unique κs a r r' x x' p q = p ∙ sym q

pub next_unique : (κs : _) (a : _) (r r' : _) (x x' : _) → next.Post κs a r x → next.Post κs a r' x' → (r ≡ r') × (x.1.0.now ≡ x'.1.0.now)
next_unique κs a r r' x x' p q = (p.0 ∙ sym q.0, p.1 ∙ sym q.1)

pub inside_unique : (κs : _) (a : _) (r r' : _) (x x' : _) → inside.Post κs a r x → inside.Post κs a r' x' → r ≡ r'
inside_unique κs a r r' x x' p q = p ∙ sym q

pub finish_unique : (κs : _) (a : _) (r r' : _) (x x' : _) → finish.Post κs a r x → finish.Post κs a r' x' → r ≡ r'
finish_unique κs a r r' x x' p q = p ∙ sym q

pub frame_unique : (κs : _) (a : _) (r r' : _) (x x' : _) → frame.Post κs a r x → frame.Post κs a r' x' → (r ≡ r') × (x.0.now ≡ x'.0.now)
frame_unique κs a r r' x x' p q = (p.says ∙ sym q.says, p.list ∙ sym q.list)

pub note_unique : (κs : _) (a : _) (r r' : _) (x x' : _) → note.Post κs a r x → note.Post κs a r' x' → (r ≡ r') × (x.0.now ≡ x'.0.now)
note_unique κs a r r' x x' p q = (p.says ∙ sym q.says, p.list ∙ sym q.list)

pub start_unique : (κs : _) (a : _) (r r' : _) (x x' : _) → start.Post κs a r x → start.Post κs a r' x' → (r ≡ r') × (x.0.now ≡ x'.0.now)
start_unique κs a r r' x x' p q = (p.says ∙ sym q.says, p.list ∙ sym q.list)

pub number_unique : (κs : _) (a : _) (r r' : _) (x x' : _) → number.Post κs a r x → number.Post κs a r' x' → r ≡ r'
number_unique κs a r r' x x' p q = p ∙ sym q

pub refused_unique : (κs : _) (a : _) (r r' : _) (x x' : _) → refused.Post κs a r x → refused.Post κs a r' x' → r ≡ r'
refused_unique κs a r r' x x' p q = p ∙ sym q

pub byte_unique : (κs : _) (a : _) (r r' : _) (x x' : _) → byte.Post κs a r x → byte.Post κs a r' x' → r ≡ r'
byte_unique κs a r r' x x' p q = p ∙ sym q

pub tag_unique : (κs : _) (a : _) (r r' : _) (x x' : _) → tag.Post κs a r x → tag.Post κs a r' x' → r ≡ r'
tag_unique κs a r r' x x' p q = p ∙ sym q

pub short_unique : (κs : _) (a : _) (r r' : _) (x x' : _) → short.Post κs a r x → short.Post κs a r' x' → r ≡ r'
short_unique κs a r r' x x' p q = p ∙ sym q
