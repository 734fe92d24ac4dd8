-- A frame's bytes in the array of 1,024: what is written so far, then zeros.
use Prim.Native.Nat.{ℕ, ◌+◌, ◌-◌, ◌≤◌}
use mathlib.Core.Path.{◌≡◌, refl, sym, ◌∙◌, ap}
use mathlib.Core.Bool.{Bool, true}
use mathlib.Core.List.{List, [], ◌∷◌, ◌++◌, append_assoc, append-nil}
use native.Mathlib.Omega.{arith}
use lib.ListN.{length, take, replicate, length-append, length-replicate, replicate-append-replicate}
use lib.Seq.{take-append_seam, drop-append-add, drop_at}
use Rattle.codec.specs.Number.{be, over}
use Rattle.codec.specs.Header.{header_bytes}
use Rattle.codec.specs.Item.{encode, item_ok, item_length}
use Rattle.codec.specs.Layout.{Entry, body, layout}
use Rattle.codec.specs.declared.time.Time.{Time}
use Rattle.codec.specs.declared.header.Header.{Header}
use Rattle.codec.proofs.HeaderLaws.{header_length}
use Rattle.codec.proofs.NumberLaws.{has_room_lem, length-be}
use Rattle.codec.proofs.ItemLaws.{encode-length}
use Rattle.framer.specs.Framer.{written, laid_out}

unfoldable pub pad : List ℕ → List ℕ
pad xs = xs ++ replicate (1024 - length xs) 0

-- bytes written in the middle, behind what is written, and over a part of it
over_mid : (p b b' r : List ℕ) (n : ℕ) → length p ≡ n → length b ≡ length b' → over (p ++ b ++ r) n b' ≡ p ++ b' ++ r
over_mid p b b' r n e h =
    rw (← e) (rw (append_assoc p b r) (rw (take-append_seam, drop-append-add) (rw (drop_at b r (length b') h) (rw append_assoc))))

over_end : (p bs : List ℕ) → length p + length bs ≤ 1024 → over (pad p) (length p) bs ≡ pad (p ++ bs)
unfolding pad
over_end p bs h =
    let e : 1024 - length p ≡ length bs + (1024 - length (p ++ bs)) = rw length-append (omega arith) in
    rw e (rw (← replicate-append-replicate {A = ℕ} (length bs) (1024 - length (p ++ bs)) 0)
    (rw (← append_assoc) (over_mid p (replicate (length bs) 0) bs (replicate (1024 - length (p ++ bs)) 0) (length p) refl (length-replicate (length bs) 0))))

over_pad : (p b b' x : List ℕ) (n : ℕ) → length p ≡ n → length b ≡ length b' → over (pad (p ++ b ++ x)) n b' ≡ pad (p ++ b' ++ x)
unfolding pad
over_pad p b b' x n e h =
    let k : length (p ++ b ++ x) ≡ length (p ++ b' ++ x) = simp (length-append, h) in
    rw k (rw (append_assoc (p ++ b) x (replicate (1024 - length (p ++ b' ++ x)) 0), append_assoc (p ++ b') x (replicate (1024 - length (p ++ b' ++ x)) 0))
    (over_mid p b b' (x ++ replicate (1024 - length (p ++ b' ++ x)) 0) n e h))

-- the array, and what the framer writes to it
pub take_pad : (p : List ℕ) (n : ℕ) → n ≡ length p → take n (pad p) ≡ p
unfolding pad
take_pad p n e = rw e (take-append_seam p (replicate (1024 - length p) 0))

length_pad : (p : List ℕ) → length p ≤ 1024 → length (pad p) ≡ 1024
unfolding pad
length_pad p h = rw (length-append, length-replicate) (omega arith)

pad_none : replicate 1024 0 ≡ pad []
unfolding pad
pad_none = refl

written_is : (fit : Bool) (l : List ℕ) (at : ℕ) (bs : List ℕ) → fit ≡ true → at + length bs ≤ length l → written fit l at bs ≡ over l at bs
unfolding written
written_is fit l at bs e h = rw e (rw (has_room_lem l at (length bs) h))

-- the header up to DataLength
unfoldable front : ℕ → Time → List ℕ
front n t = (1 ∷ n ∷ []) ++ be 6 t.sec ++ be 4 t.nano

layout_parts : (n : ℕ) (t : Time) (es : List Entry) → layout n t es ≡ front n t ++ be 2 (length (body es)) ++ body es
unfolding layout header_bytes front
layout_parts n t es = refl

front_length : (n : ℕ) (t : Time) → length (front n t) ≡ 12
unfolding front
front_length n t = refl

pub layout-length : (n : ℕ) (t : Time) (es : List Entry) → length (layout n t es) ≡ 14 + length (body es)
layout-length n t es = rw (layout_parts n t es) (simp (length-append, front_length n t))

body_more : (es : List Entry) (e : Entry) → body (es ++ (e ∷ [])) ≡ body es ++ encode e.item e.payload
body_more [] e = append-nil (encode e.item e.payload)
body_more (x ∷ es) e = rw (body_more es e) (rw append_assoc)

-- an item more, and DataLength written again
module _ (n : ℕ) (t : Time) (es : List Entry) (e : Entry) (ok : item_ok e.item (length e.payload) ≡ true) where
  abbrev more : List ℕ
  more = encode e.item e.payload

  abbrev size : ℕ
  size = length (body es) + item_length e.item (length e.payload)

  more_length : length (layout n t es ++ more) ≡ 14 + size
  more_length = rw (length-append, layout-length n t es, encode-length e.item e.payload) (omega arith)

  item_laid : 14 + size ≤ 1024 → written (item_ok e.item (length e.payload)) (pad (layout n t es)) (14 + length (body es)) more ≡ pad (layout n t es ++ more)
  item_laid h =
      let a = layout-length n t es in
      let b = encode-length e.item e.payload in
      written_is _ (pad (layout n t es)) (14 + length (body es)) more ok (omega (arith, length_pad (layout n t es) (omega arith)))
      ∙ ap (λ (i : ℕ). over (pad (layout n t es)) i more) (sym a) ∙ over_end (layout n t es) more (omega arith)

  length_laid : 14 + size ≤ 1024 → written true (pad (layout n t es ++ more)) 12 (be 2 size) ≡ pad (layout n t (es ++ (e ∷ [])))
  length_laid h =
      let a : layout n t es ++ more ≡ front n t ++ be 2 (length (body es)) ++ (body es ++ more)
      = rw (layout_parts n t es) (append_assoc (front n t ++ be 2 (length (body es))) (body es) more) in
      let b : length (body es ++ more) ≡ size = rw (length-append, encode-length e.item e.payload) in
      written_is true (pad (layout n t es ++ more)) 12 (be 2 size) refl
      (omega (arith, length-be 2 size, length_pad (layout n t es ++ more) (omega (arith, more_length))))
      ∙ rw (a, layout_parts n t (es ++ (e ∷ [])), body_more es e, b)
      (over_pad (front n t) (be 2 (length (body es))) (be 2 size) (body es ++ more) 12 (front_length n t) refl)

  pub laid_more : 14 + size ≤ 1024 → laid_out (pad (layout n t es)) (14 + length (body es)) e.item e.payload size ≡ pad (layout n t (es ++ (e ∷ [])))
  unfolding laid_out
  laid_more h = rw (item_laid h) (length_laid h)

-- a header alone
pub header_alone : (n : ℕ) (t : Time) (fit : Bool) → fit ≡ true
    → written fit (replicate 1024 0) 0 (header_bytes (record { sequence = n; time = t; length = 0 })) ≡ pad (layout n t [])
unfolding layout
header_alone n t fit e =
    let h : Header = record { sequence = n; time = t; length = 0 } in
    let k = header_length h in
    rw (pad_none, append-nil (header_bytes h)) (written_is fit (pad []) 0 (header_bytes h) e (omega (arith, length_pad [] (omega arith))) ∙ over_end [] (header_bytes h) (omega arith))
