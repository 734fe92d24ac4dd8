-- What an accepted frame's items lay out to. Assumes nothing.
use Prim.Native.Nat.{ℕ, zero, suc, ◌+◌, ◌≤◌, ◌<◌}
use mathlib.Core.Path.{◌≡◌, refl, sym, ◌∙◌, ap}
use mathlib.Core.Bool.{Bool, true, false}
use mathlib.Core.List.{List, [], ◌++◌}
use native.Mathlib.Omega.{arith}
use lib.ListN.{length, length-append}
use lib.Seq.{paste-zero}
use lib.Dec.{ltb}
use borrow.Author.Tests.{ltb-true, ltb-false, lt-leb, le-leb}
use Rattle.std.specs.Prelude.{Option, Result, Ok, Err, ⊤}
use Rattle.codec.specs.Choice.{then}
use Rattle.codec.specs.Time.{time_ok}
use Rattle.codec.specs.Number.{Bytes, over, Wrote}
use Rattle.codec.specs.Item.{encode, item_ok}
use Rattle.codec.specs.Field.{read_item, bytes_at}
use Rattle.codec.specs.Header.{read_header, header_bytes}
use Rattle.codec.specs.Layout.{body, layout}
use Rattle.codec.specs.declared.refusal.Refusal.{Refusal}
use Rattle.codec.specs.declared.header.Header.{Header}
use Rattle.codec.specs.declared.field.Decoded.{Decoded}
use Rattle.codec.proofs.NumberLaws.{over-over, kept, length_over}
use Rattle.codec.proofs.HeaderLaws.{header_length}
use Rattle.codec.proofs.Opened.{never}
use Rattle.codec.proofs.Inverse.{read_room, item_forth, header_got, header_forth}
use Rattle.reader.proofs.AlongLaws.{walk_item, walk_bad, items_end, items_item}
use Rattle.reader.specs.declared.copy.RewriteError.{RewriteError}
use Rattle.reader.specs.Frame.{walk_of, items_of, Clean, judge_of, laid_out, rewrite_of, rewritten_of}

-- a clean walk meets no refusal
pub not-bad : {G : Type 0} (s : List ℕ) (at : ℕ) {why : Refusal} → Clean s at → at < length s → read_item s at ≡ Err why → G
not-bad s at {why} c h q = let e : ◌≡◌ {A = Result ⊤ Refusal} (Err why) (Ok tt) = sym (walk_bad s at h q) ∙ c in never (cc)

-- what holds at the end, and at an item where it holds at the next place, holds all along a clean walk
module _ (s : List ℕ) (P : ℕ → Type 0) (end : (at : ℕ) → at ≡ length s → P at)
    (item : (at : ℕ) (d : Decoded) → at < length s → read_item s at ≡ Ok d → P d.next → P at) where
  climb : (n at : ℕ) → at ≤ length s → length s ≤ at + n → Clean s at → P at
  climb zero at h f c = end at (omega arith)
  climb (suc n) at h f c = go (λ next. climb n next) (ltb at (length s)) refl (read_item s at) refl
    where
      go : ((next : ℕ) → next ≤ length s → length s ≤ next + n → Clean s next → P next)
          → (t : Bool) → ltb at (length s) ≡ t → (r : Result Decoded Refusal) → read_item s at ≡ r → P at
      go on false e r q = let k : length s ≤ at = ltb-false at (length s) e in end at (omega arith)
      go on true e (Err why) q = not-bad s at c (ltb-true at (length s) e) q
      go on true e (Ok d) q =
          let k : at < length s = ltb-true at (length s) e in
          let r = read_room s at q in
          item at d k q (on d.next r.1 (omega arith) (sym (walk_item s at k q) ∙ c))

  pub all_along : (at : ℕ) → at ≤ length s → Clean s at → P at
  all_along at h c = climb (length s) at h (omega arith) c

-- the items from `at` on are still to be laid out
pub record Left (s l out : List ℕ) (at : ℕ) : Type 0 where
  pub len : length out ≡ length l
  pub clean : walk_of s at ≡ Ok tt
  pub same : over l 14 (body (items_of s 14)) ≡ over out at (body (items_of s at))

pub left_item : {s l out : List ℕ} {at : ℕ} {d : Decoded} (pl : List ℕ) {out' : List ℕ} {p : Option ℕ}
    → Left s l out at → at < length s → length s ≤ length l → Bytes s → read_item s at ≡ Ok d
    → pl ≡ bytes_at s d.start d.len → Wrote (item_ok d.item (length pl)) out at (encode d.item pl) out' p → Left s l out' d.next
left_item {s} {l} {out} {at} {d} pl {out'} {p} v h f b q e w =
    let r = read_room s at q in
    let o = item_forth s at b q in
    let k : item_ok d.item (length pl) ≡ true = rw e o.valid.ok in
    let n : d.next ≡ at + length (encode d.item pl) = rw e o.ends in
    let m = v.len in
    let w1 : Wrote true out at (encode d.item pl) out' p = rw k at w in
    let g : out' ≡ over out at (encode d.item pl) = kept w1 (omega arith) in
    record {
      len = ap length g ∙ length_over out at (encode d.item pl) (omega arith) ∙ m;
      clean = sym (walk_item s at h q) ∙ v.clean;
      same = v.same ∙ rw (items_item s at h q, ← e, g, n) (sym (over-over out at (encode d.item pl) (body (items_of s (at + length (encode d.item pl)))) (omega arith)));
    }

pub left_last : {s l out : List ℕ} {at : ℕ} → Left s l out at → length s ≤ at → out ≡ over l 14 (body (items_of s 14))
left_last {s} {l} {out} {at} v h =
    let i : items_of s at ≡ [] = items_end s at h in
    paste-zero out at [] ∙ sym (v.same ∙ rw i)

over_after : (l xs ys : List ℕ) (k : ℕ) → length xs ≡ k → k ≤ length l → over (over l 0 xs) k ys ≡ over l 0 (xs ++ ys)
over_after l xs ys k e h =
    let n : 0 + length xs ≡ k = omega arith in
    ap (λ (i : ℕ). over (over l 0 xs) i ys) (sym n) ∙ over-over l 0 xs ys (omega arith)

-- what is judged to be a frame has its header and a clean walk, whatever walk it was
pub judged_clean : (r : Result Header Refusal) (w : Result ⊤ Refusal) {h : Header} → then r (λ x. then w (λ clean. Ok x)) ≡ Ok h
    → (r ≡ Ok h) × (w ≡ Ok tt)
judged_clean (Ok x) (Ok tt) {h} e = let g : x ≡ h = cc in (ap Ok g, refl)
judged_clean (Ok x) (Err why) e = never (cc)
judged_clean (Err why) w e = never (cc)

pub accepted : (s : List ℕ) {h : Header} → judge_of s ≡ Ok h → (read_header s ≡ Ok h) × (walk_of s 14 ≡ Ok tt)
unfolding judge_of
accepted s e = judged_clean (read_header s) (walk_of s 14) e

-- the verdict, by the header and the walk
pub judged_good : (s : List ℕ) {h : Header} → read_header s ≡ Ok h → walk_of s 14 ≡ Ok tt → judge_of s ≡ Ok h
unfolding judge_of
judged_good s e c = simp (e, c)

pub judged_bad : (s : List ℕ) {h : Header} {why : Refusal} → read_header s ≡ Ok h → walk_of s 14 ≡ Err why → judge_of s ≡ Err why
unfolding judge_of
judged_bad s e c = simp (e, c)

-- the items of a clean walk are as long as the bytes they were read from
module _ (s : List ℕ) (b : Bytes s) where
  pub body-length : (at : ℕ) → at ≤ length s → Clean s at → at + length (body (items_of s at)) ≡ length s
  body-length =
      all_along s (λ at. at + length (body (items_of s at)) ≡ length s) (λ at e. rw (items_end s at (omega arith)) (omega arith))
      (λ at d k q x.
      let y = (item_forth s at b q).ends in
      rw (items_item s at k q, length-append) (omega arith))

  pub laid_length : {h : Header} → read_header s ≡ Ok h → Clean s 14 → length (body (items_of s 14)) ≡ h.length
  laid_length {h} e c =
      let l = (header_got s e).long in
      let x = body-length 14 l c in
      let f = header_forth s b e in
      let r = f.size in
      omega arith

  -- the yielded header and items are the header's bytes and the items'
  pub laid_is : {h : Header} → read_header s ≡ Ok h → Clean s 14 → laid_out s h ≡ header_bytes h ++ body (items_of s 14)
  unfolding laid_out layout
  laid_is {h} e c = ap (λ (n : ℕ). header_bytes (record { sequence = h.sequence; time = h.time; length = n }) ++ body (items_of s 14)) (laid_length e c)

  pub rewrite_done : {h : Header} {out m l : List ℕ} {p : Option ℕ} → judge_of s ≡ Ok h → length s ≤ length out
      → Wrote (time_ok h.time) out 0 (header_bytes h) m p → l ≡ over m 14 (body (items_of s 14))
      → (Ok (length s) ≡ rewrite_of s out) × (l ≡ rewritten_of s out)
  unfolding rewrite_of rewritten_of
  rewrite_done {h} {out} {m} {l} {p} j f w d =
      let a = accepted s j in
      let e = a.0 in
      let v = header_forth s b e in
      let n = header_length h in
      let g = (header_got s e).long in
      let t : time_ok h.time ≡ true = simp (le-leb h.time.sec 281474976710655 v.sec, le-leb h.time.nano 999999999 v.nano) in
      let w1 : Wrote true out 0 (header_bytes h) m p = rw t at w in
      let k : m ≡ over out 0 (header_bytes h) = kept w1 (omega arith) in
      let o : over (over out 0 (header_bytes h)) 14 (body (items_of s 14)) ≡ over out 0 (header_bytes h ++ body (items_of s 14))
      = over_after out (header_bytes h) (body (items_of s 14)) 14 n (omega arith) in
      (simp (j, le-leb (length s) (length out) f), d ∙ rw k (o ∙ simp (j, le-leb (length s) (length out) f, laid_is e a.1)))

pub rewrite_small : (s out : List ℕ) {h : Header} → judge_of s ≡ Ok h → length out < length s
    → (Err RewriteError.Small ≡ rewrite_of s out) × (out ≡ rewritten_of s out)
unfolding rewrite_of rewritten_of
rewrite_small s out j f = (simp (j, lt-leb (length s) (length out) f), simp (j, lt-leb (length s) (length out) f))

pub rewrite_refused : (s out : List ℕ) {why : Refusal} → judge_of s ≡ Err why
    → (Err (RewriteError.Frame why) ≡ rewrite_of s out) × (out ≡ rewritten_of s out)
unfolding rewrite_of rewritten_of
rewrite_refused s out j = (simp j, simp j)
