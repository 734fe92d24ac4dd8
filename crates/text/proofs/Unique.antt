-- Any two outcomes that a public function's contract permits are the same: `Post` is the contract's own reading, of the
-- lifetimes, the arguments, the result and the parameters at exit. Assumes nothing.
use mathlib.Core.Path.{◌≡◌, sym, ◌∙◌}
use Rattle.text.proofs.digit.value.Reads as value
use Rattle.text.proofs.number.read.Reads as number
use Rattle.text.proofs.bytes.read.Reads as bytes
use Rattle.text.proofs.line.find.Reads as find
use Rattle.text.proofs.line.kept.Reads as kept
use Rattle.text.proofs.line.words.Reads as words
use Rattle.text.proofs.line.word.Reads as word
use Rattle.text.proofs.part.front.Reads as front
use Rattle.text.proofs.put.hex.Reads as hex
use Rattle.text.proofs.put.decimal.Reads as decimal
use Rattle.text.proofs.digit.written.Reads as written
use Rattle.text.proofs.draft.Draft.new.Reads as new
use Rattle.text.proofs.draft.Draft.push.Reads as push
use Rattle.text.proofs.draft.Draft.decimal.Reads as added
use Rattle.text.proofs.draft.Draft.field.Reads as field
use Rattle.text.proofs.draft.Draft.add_row.Reads as add_row
use Rattle.text.proofs.draft.Draft.row.Reads as row
use Rattle.text.proofs.draft.Draft.as_slice.Reads as as_slice
use Rattle.text.proofs.draft.Draft.put.Reads as put

pub value_unique : (κs : _) (a : _) (r r' : _) (x x' : _) → value.Post κs a r x → value.Post κs a r' x' → r ≡ r'
value_unique κs a r r' x x' p q = p ∙ sym q

pub number_unique : (κs : _) (a : _) (r r' : _) (x x' : _) → number.Post κs a r x → number.Post κs a r' x' → r ≡ r'
number_unique κs a r r' x x' p q = p ∙ sym q

pub bytes_unique : (κs : _) (a : _) (r r' : _) (x x' : _) → bytes.Post κs a r x → bytes.Post κs a r' x'
    → (r ≡ r') × (x.1.0.now ≡ x'.1.0.now)
bytes_unique κs a r r' x x' p q = (p.answer ∙ sym q.answer, p.list ∙ sym q.list)

pub find_unique : (κs : _) (a : _) (r r' : _) (x x' : _) → find.Post κs a r x → find.Post κs a r' x' → r ≡ r'
find_unique κs a r r' x x' p q = p.is ∙ sym q.is

pub kept_unique : (κs : _) (a : _) (r r' : _) (x x' : _) → kept.Post κs a r x → kept.Post κs a r' x' → r.now ≡ r'.now
kept_unique κs a r r' x x' p q = p ∙ sym q

pub words_unique : (κs : _) (a : _) (r r' : _) (x x' : _) → words.Post κs a r x → words.Post κs a r' x' → r ≡ r'
words_unique κs a r r' x x' p q = p ∙ sym q

pub word_unique : (κs : _) (a : _) (r r' : _) (x x' : _) → word.Post κs a r x → word.Post κs a r' x' → r.now ≡ r'.now
word_unique κs a r r' x x' p q = p ∙ sym q

pub front_unique : (t : _) (g : _) (κs : _) (a : _) (r r' : _) (x x' : _) → front.Post t g κs a r x → front.Post t g κs a r' x' → r.now ≡ r'.now
front_unique t g κs a r r' x x' p q = p ∙ sym q

pub hex_unique : (κs : _) (a : _) (r r' : _) (x x' : _) → hex.Post κs a r x → hex.Post κs a r' x' → (r ≡ r') × (x.0.now ≡ x'.0.now)
hex_unique κs a r r' x x' p q = (p.answer ∙ sym q.answer, p.list ∙ sym q.list)

pub decimal_unique : (κs : _) (a : _) (r r' : _) (x x' : _) → decimal.Post κs a r x → decimal.Post κs a r' x'
    → (r ≡ r') × (x.0.now ≡ x'.0.now)
decimal_unique κs a r r' x x' p q = (p.answer ∙ sym q.answer, p.list ∙ sym q.list)

pub written_unique : (κs : _) (a : _) (r r' : _) (x x' : _) → written.Post κs a r x → written.Post κs a r' x' → r ≡ r'
written_unique κs a r r' x x' p q = p ∙ sym q

-- drafts of every size
module _ (n : _) (fits : _) where
  pub new_unique : (κs : _) (a : _) (r r' : _) (x x' : _) → new.Post n fits κs a r x → new.Post n fits κs a r' x' → r ≡ r'
  new_unique κs a r r' x x' p q = p ∙ sym q

  pub row_unique : (κs : _) (a : _) (r r' : _) (x x' : _) → row.Post n fits κs a r x → row.Post n fits κs a r' x' → r ≡ r'
  row_unique κs a r r' x x' p q = p ∙ sym q

  pub push_unique : (κs : _) (a : _) (r r' : _) (x x' : _) → push.Post n fits κs a r x → push.Post n fits κs a r' x' → x.0.now ≡ x'.0.now
  push_unique κs a r r' x x' p q = p.is ∙ sym q.is

  pub add_row_unique : (κs : _) (a : _) (r r' : _) (x x' : _) → add_row.Post n fits κs a r x → add_row.Post n fits κs a r' x' → x.0.now ≡ x'.0.now
  add_row_unique κs a r r' x x' p q = p.is ∙ sym q.is

  pub added_unique : (κs : _) (a : _) (r r' : _) (x x' : _) → added.Post n fits κs a r x → added.Post n fits κs a r' x' → x.0.now ≡ x'.0.now
  added_unique κs a r r' x x' p q = p.is ∙ sym q.is

  pub field_unique : (κs : _) (a : _) (r r' : _) (x x' : _) → field.Post n fits κs a r x → field.Post n fits κs a r' x' → x.0.now ≡ x'.0.now
  field_unique κs a r r' x x' p q = p.is ∙ sym q.is

  pub as_slice_unique : (κs : _) (a : _) (r r' : _) (x x' : _) → as_slice.Post n fits κs a r x → as_slice.Post n fits κs a r' x' → r.now ≡ r'.now
  as_slice_unique κs a r r' x x' p q = p ∙ sym q

  pub put_unique : (κs : _) (a : _) (r r' : _) (x x' : _) → put.Post n fits κs a r x → put.Post n fits κs a r' x' → (r ≡ r') × (x.1.0.now ≡ x'.1.0.now)
  put_unique κs a r r' x x' p q = (p.answer ∙ sym q.answer, p.list ∙ sym q.list)
