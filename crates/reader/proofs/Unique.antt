-- Any two outcomes that a public function's own contract permits coincide.
use mathlib.Core.Path.{◌≡◌, sym, ◌∙◌}
use Prim.Native.Nat.{ℕ}
use denote.RattleType.{RattleType}
use Rattle.std.specs.declared.convert.Into.{Ghosts}
use Rattle.std.specs.Prelude.{Result, Ok, Err, MatchResult}
use mathlib.Core.List.{List}
use Rattle.reader.specs.Items.{Gives}
use Rattle.reader.proofs.answer.number.Reads as answer
use Rattle.reader.proofs.answer.judged_number.Reads as judged-number
use Rattle.reader.proofs.answer.judged_header.Reads as judged-header
use Rattle.reader.proofs.answer.stepped_number.Reads as stepped-number
use Rattle.reader.proofs.answer.rewritten_number.Reads as rewritten-number
use Rattle.reader.proofs.answer.rewritten_length.Reads as rewritten-length
use Rattle.reader.proofs.frame.judge.Reads as judge
use Rattle.reader.proofs.place.step.Reads as step
use Rattle.reader.proofs.place.item_at.Reads as item-at
use Rattle.reader.proofs.place.payload.Reads as payload
use Rattle.reader.proofs.place.payload_at.Reads as payload-at
use Rattle.reader.proofs.copy.rewrite.Reads as rewrite
use Rattle.reader.proofs.copy.U8FromRewriteError.from.Reads as number
use Rattle.reader.proofs.copy.RewriteErrorFromRefusal.from.Reads as refused
use Rattle.reader.proofs.items.Items.of.Reads as items

pub judge_unique : (κs : _) (a : _) (r r' : _) (x x' : _) → judge.Post κs a r x → judge.Post κs a r' x' → r ≡ r'
judge_unique κs a r r' x x' p q = p ∙ sym q

pub step_unique : (κs : _) (a : _) (r r' : _) (x x' : _) → step.Post κs a r x → step.Post κs a r' x' → r ≡ r'
step_unique κs a r r' x x' p q = p ∙ sym q

pub item_at_unique : (κs : _) (a : _) (r r' : _) (x x' : _) → item-at.Post κs a r x → item-at.Post κs a r' x' → r ≡ r'
item_at_unique κs a r r' x x' p q = p ∙ sym q

pub payload_unique : (κs : _) (a : _) (r r' : _) (x x' : _) → payload.Post κs a r x → payload.Post κs a r' x' → r.now ≡ r'.now
payload_unique κs a r r' x x' p q = p ∙ sym q

pub payload_at_unique : (κs : _) (a : _) (r r' : _) (x x' : _) → payload-at.Post κs a r x → payload-at.Post κs a r' x' → r.now ≡ r'.now
payload_at_unique κs a r r' x x' p q = p ∙ sym q

pub rewrite_unique : (κs : _) (a : _) (r r' : _) (x x' : _) → rewrite.Post κs a r x → rewrite.Post κs a r' x' → (r ≡ r') × (x.1.0.now ≡ x'.1.0.now)
rewrite_unique κs a r r' x x' p q = (p.0 ∙ sym q.0, p.1 ∙ sym q.1)

pub judged_number_unique : (κs : _) (a : _) (r r' : _) (x x' : _) → judged-number.Post κs a r x → judged-number.Post κs a r' x' → r ≡ r'
judged_number_unique κs a r r' x x' p q = p ∙ sym q

pub judged_header_unique : (κs : _) (a : _) (r r' : _) (x x' : _) → judged-header.Post κs a r x → judged-header.Post κs a r' x' → r ≡ r'
judged_header_unique κs a r r' x x' p q = p ∙ sym q

pub stepped_number_unique : (κs : _) (a : _) (r r' : _) (x x' : _) → stepped-number.Post κs a r x → stepped-number.Post κs a r' x' → r ≡ r'
stepped_number_unique κs a r r' x x' p q = p ∙ sym q

pub rewritten_number_unique : (κs : _) (a : _) (r r' : _) (x x' : _) → rewritten-number.Post κs a r x → rewritten-number.Post κs a r' x' → r ≡ r'
rewritten_number_unique κs a r r' x x' p q = p ∙ sym q

pub rewritten_length_unique : (κs : _) (a : _) (r r' : _) (x x' : _) → rewritten-length.Post κs a r x → rewritten-length.Post κs a r' x' → r ≡ r'
rewritten_length_unique κs a r r' x x' p q = p ∙ sym q

pub number_unique : (κs : _) (a : _) (r r' : _) (x x' : _) → number.Post κs a r x → number.Post κs a r' x' → r ≡ r'
number_unique κs a r r' x x' p q = p ∙ sym q

pub refused_unique : (κs : _) (a : _) (r r' : _) (x x' : _) → refused.Post κs a r x → refused.Post κs a r' x' → r ≡ r'
refused_unique κs a r r' x x' p q = p ∙ sym q

pub items_unique : (κs : _) (a : _) (r r' : _) (x x' : _) → items.Post κs a r x → items.Post κs a r' x' → (r.frame.now ≡ r'.frame.now) × (r.place ≡ r'.place)
items_unique κs a r r' x x' p q = (p.0 ∙ sym q.0, p.1 ∙ sym q.1)

-- of one call of `next`: what it gave, and the place that it left
pub gives_unique : (s : List ℕ) (at : ℕ) {r r' : _} {to to' : ℕ} → Gives s at r to → Gives s at r' to' → (r ≡ r') × (to ≡ to')
gives_unique s at p q = (p.given ∙ sym q.given, p.left ∙ sym q.left)

-- of any error whose own number is one
answer_one : {T E : Type 0} {converts : E → ℕ → Type 0} (r : Result T E) (m n : ℕ) → ((why : E) (m n : ℕ) → converts why m → converts why n → m ≡ n)
    → MatchResult r (λ done. m ≡ 0) (λ why. converts why m) → MatchResult r (λ done. n ≡ 0) (λ why. converts why n) → m ≡ n
answer_one (Ok x) m n one p q = p ∙ sym q
answer_one (Err why) m n one p q = one why m n p q

module _ (T E : RattleType) (lt : _) (le : _) (ct : _) (ce : _) (gt : _) (dt : _) (ge : _) (de : _) (i : Ghosts E.Denot ℕ) (di : _) where
  pub answer_unique : (κs : _) (a : _) (r r' : _) (x x' : _) → ((why : E.Denot) (m n : ℕ) → i.converts why m → i.converts why n → m ≡ n)
      → answer.Post T E lt le ct ce gt dt ge de i di κs a r x → answer.Post T E lt le ct ce gt dt ge de i di κs a r' x' → r ≡ r'
  answer_unique κs a r r' x x' one p q = answer_one a.0 r r' one p q
