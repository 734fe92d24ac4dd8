-- Laws of the big-endian numbers, over the width. Assumes nothing.
use Prim.Native.Nat.{ℕ, zero, suc, ◌+◌, ◌-◌, ◌*◌, ◌/◌, ◌%◌, ◌^◌, ◌≤◌, ◌<◌}
use mathlib.Core.Path.{◌≡◌, refl, sym, ◌∙◌, ap}
use mathlib.Core.Bool.{Bool, true, false}
use mathlib.Core.List.{List, [], ◌∷◌, ◌++◌, append_assoc}
use native.Mathlib.Nat.{add-suc, suc-add, add_assoc, pow-suc, pow-succ', pow-le-pow_right, div-div-eq-div-mul}
use native.Mathlib.Numerals.{add-one}
use native.Mathlib.Omega.{arith}
use borrow.Rule.Slice.PartMut.{put_mid}
use lib.ListN.{length, take, drop, set, get_or, length-append, length-set, length-drop}
use lib.Dec.{leb}
use lib.Seq.{sets, sets-eq, drop-cons, paste-zero, take_at, drop-append-add, drop-drop, length-take-le, take-suc, take-length, set_at}
use Rattle.std.specs.Prelude.{Option, Some, None}
use Rattle.codec.specs.Choice.{pick, opened}
use Rattle.codec.proofs.Opened.{never, chosen}
use borrow.Author.Tests.{le-leb, lt-leb, leb-true}
use Rattle.codec.specs.Number.{part_of, get_of, be, val, over, shr, word, word_at, fits, Wrote, Laid, Word}

-- stores at at + k, at + (k + 1), ..: what straight-line code leaves
abbrev pub stores : List ℕ → ℕ → ℕ → List ℕ → List ℕ
stores l at k [] = l
stores l at k (b ∷ bs) = stores (set l (at + k) b) at (suc k) bs

stores_sets : (bs l : List ℕ) (at k : ℕ) → stores l at k bs ≡ sets l (at + k) bs
stores_sets [] l at k = refl
stores_sets (b ∷ bs) l at k =
    stores_sets bs (set l (at + k) b) at (suc k) ∙ ap (λ (n : ℕ). sets (set l (at + k) b) n bs) (add-suc at k)

-- a run of stores from index at is its bytes over the list
pub run : (l : List ℕ) (at b : ℕ) (bs : List ℕ) → at + suc (length bs) ≤ length l → stores (set l at b) at 1 bs ≡ over l at (b ∷ bs)
run l at b bs h =
    stores_sets bs (set l at b) at 1
    ∙ ap (λ (n : ℕ). sets (set l at b) n bs) (add-one at)
    ∙ sets-eq (b ∷ bs) l at h

-- the answers: no room, a value that is too wide, and written
pub no_room : (s : List ℕ) (at n : ℕ) → length s < at + n → fits s at n ≡ false
unfolding fits
no_room s at n h = lt-leb (at + n) (length s) h

pub has_room_lem : (s : List ℕ) (at n : ℕ) → at + n ≤ length s → fits s at n ≡ true
unfolding fits
has_room_lem s at n h = le-leb (at + n) (length s) h

pub miss : {A : Type 0} {y : A} (x : A) (s : List ℕ) (at n : ℕ) → length s < at + n → y ≡ pick (fits s at n) x y
miss x s at n h = simp (no_room s at n h)

pub hit : {A : Type 0} {z : A} (x y : A) (s : List ℕ) (at n : ℕ) → at + n ≤ length s → z ≡ x → z ≡ pick (fits s at n) x y
hit x y s at n h e = rw (has_room_lem s at n h) e

pub wide : {l : List ℕ} {at : ℕ} {bs : List ℕ} → Wrote false l at bs l None
wide = record { list = refl; answer = refl }

pub full : {fit : Bool} {l : List ℕ} {at : ℕ} {bs : List ℕ} → length l < at + length bs → Wrote fit l at bs l None
full {fit = false} h = wide
full {fit = true} h = record { list = miss _ _ _ _ h; answer = miss _ _ _ _ h }

-- the answer where there is no room
pub unwritten : {fit : Bool} {l : List ℕ} {at n : ℕ} {bs : List ℕ} {r : Option ℕ} → r ≡ None → length l < at + n → n ≡ length bs → Wrote fit l at bs l r
unwritten e h k = rw e (full (omega arith))

pub wrote : {l l' : List ℕ} {at : ℕ} {bs : List ℕ} → at + length bs ≤ length l → l' ≡ over l at bs → Wrote true l at bs l' (Some (at + length bs))
wrote h g = record { list = hit _ _ _ _ _ h g; answer = hit _ _ _ _ _ h refl }

-- a copy over the part of l that bs take
pub copied : (l bs : List ℕ) (at next : ℕ) → next ≡ at + length bs → next ≤ length l → Wrote true l at bs (put_mid at (next - at) l bs) (Some next)
copied l bs at next e h =
    let k : at + length bs - at ≡ length bs = omega arith in
    let p : put_mid at (at + length bs - at) l bs ≡ over l at bs = rw (k, drop-drop (length bs) at l) (simp append_assoc) in
    rw e (wrote (omega arith) p)

-- bytes stored one by one, and what a write that had room did
pub laid : {l : List ℕ} {at : ℕ} {cs : List ℕ} (b : ℕ) (bs : List ℕ) → cs ≡ (b ∷ bs) → at + length cs ≤ length l → Laid l at cs (stores (set l at b) at 1 bs) (at + suc (length bs))
laid {l} {at} {cs} b bs e h = let g : at + suc (length bs) ≤ length l = rw e at h in rw e record { list = run l at b bs g; next = refl }

pub kept : {l : List ℕ} {at : ℕ} {bs : List ℕ} {l' : List ℕ} {r : Option ℕ} → Wrote true l at bs l' r → at + length bs ≤ length l → l' ≡ over l at bs
kept {l} {at} {bs} w h = w.list ∙ sym (hit (over l at bs) l l at (length bs) h refl)

pub laid_by : {l : List ℕ} {at : ℕ} {cs bs : List ℕ} {l' : List ℕ} {r : Option ℕ} → Wrote true l at bs l' r → cs ≡ bs → at + length cs ≤ length l → Laid l at cs l' (at + length bs)
laid_by {l} {at} {cs} {bs} w e h = let g : at + length bs ≤ length l = rw e at h in rw e record { list = kept w g; next = refl }

-- bytes after bytes are their append
pub over-over : (l : List ℕ) (at : ℕ) (xs ys : List ℕ) → at + length xs ≤ length l → over (over l at xs) (at + length xs) ys ≡ over l at (xs ++ ys)
over-over l at xs ys h =
    let p : List ℕ = take at l ++ xs in
    let q : List ℕ = drop (at + length xs) l in
    let n : length p ≡ at + length xs = simp (length-append, length-take-le at l (omega arith)) in
    let t : take (at + length xs) (p ++ q) ≡ p = take_at p q (at + length xs) n in
    let d : drop (at + length xs + length ys) (p ++ q) ≡ drop (at + length xs + length ys) l
    = ap (λ (k : ℕ). drop (k + length ys) (p ++ q)) (sym n) ∙ drop-append-add p q (length ys) ∙ drop-drop (length ys) (at + length xs) l in
    rw (t, d) (simp (append_assoc, length-append, add_assoc))

pub chain : {l : List ℕ} {at : ℕ} {xs ys m l' : List ℕ} {k r : ℕ} → Laid l at xs m k → Laid m k ys l' r → at + length xs ≤ length l → Laid l at (xs ++ ys) l' r
chain {l} {at} {xs} {ys} {m} {l'} {k} {r} a b h = record {
  list = b.list ∙ rw (a.list, a.next) (over-over l at xs ys h);
  next = rw length-append (omega arith);
}

pub from_laid : {fit : Bool} {l : List ℕ} {at : ℕ} {bs : List ℕ} {l' : List ℕ} {r : ℕ} → fit ≡ true → at + length bs ≤ length l → Laid l at bs l' r → Wrote fit l at bs l' (Some r)
from_laid e h d = rw (e, d.next) (wrote h d.list)

pub refused : {fit : Bool} {l : List ℕ} {at : ℕ} {bs : List ℕ} → fit ≡ false → Wrote fit l at bs l None
refused e = rw e wide

-- the bytes of v from index at to e, from the last to the first: they stand over l from index i on, and x is what is left of v
pub record Down (l : List ℕ) (at e v : ℕ) (out : List ℕ) (x i : ℕ) : Type 0 where
  pub least : at ≤ i
  pub most : i ≤ e
  pub left : x ≡ shr (e - i) v
  pub list : out ≡ over l i (be (e - i) v)
  pub len : length out ≡ length l

pub length-be : (n v : ℕ) → length (be n v) ≡ n
length-be zero v = refl
length-be (suc n) v = ap suc (length-be n v)

shr-suc : (k v : ℕ) → shr k v / 256 ≡ shr (suc k) v
shr-suc zero v = refl
shr-suc (suc k) v = rw (div-div-eq-div-mul, ← pow-suc)

grow : (l : List ℕ) (at b : ℕ) (bs : List ℕ) → at < length l → set (over l (suc at) bs) at b ≡ over l at (b ∷ bs)
grow l at b bs h =
    let q : List ℕ = bs ++ drop (suc at + length bs) l in
    let e : over l (suc at) bs ≡ take at l ++ (get_or l at 0 ∷ q) = rw (take-suc l at 0 h) (simp append_assoc) in
    rw e (set_at (take at l) (get_or l at 0) q b at (length-take-le at l (omega arith)) ∙ simp (append_assoc, suc-add, add-suc))

pub down_first : (l : List ℕ) (at e v : ℕ) → at ≤ e → Down l at e v l v e
down_first l at e v h =
    let z : e - e ≡ 0 = omega arith in
    record { least = h; most = omega arith; left = rw z; list = rw z (paste-zero l e []); len = refl }

pub down : {l : List ℕ} {at e v : ℕ} {out : List ℕ} {x i : ℕ} (b : ℕ) → Down l at e v out x i → at < i → e ≤ length l → b ≡ x % 256
    → Down l at e v (set out (i - 1) b) (x / 256) (i - 1)
down {l} {at} {e} {v} {out} {x} {i} b d h f g =
    let m = d.most in
    let z : e - (i - 1) ≡ suc (e - i) = omega arith in
    let k : i ≡ suc (i - 1) = omega arith in
    let p : over l i (be (e - i) v) ≡ over l (suc (i - 1)) (be (e - i) v) = ap (λ (j : ℕ). over l j (be (e - i) v)) k in
    record {
      least = omega arith;
      most = omega arith;
      left = rw (z, d.left) (shr-suc (e - i) v);
      list = rw (z, d.list, p, g, d.left) (grow l (i - 1) (shr (e - i) v % 256) (be (e - i) v) (omega arith));
      len = simp length-set d.len;
    }

pub down_last : {l : List ℕ} {at e v : ℕ} {out : List ℕ} {x i : ℕ} (n : ℕ) → Down l at e v out x i → i ≤ at → e ≡ at + n → e ≤ length l
    → Wrote true l at (be n v) out (Some e)
down_last {l} {at} {e} {v} {out} {x} {i} n d k g f =
    let m = d.least in
    let h : i ≡ at = omega arith in
    let z : e - i ≡ n = omega arith in
    let w : Wrote true l at (be n v) out (Some (at + length (be n v))) = wrote (rw (length-be n v) (omega arith)) (rw (z, h) at d.list) in
    rw g (rw (length-be n v) at w)

-- the number of a list that grows at its end
val_snoc : (a : ℕ) (xs : List ℕ) (b : ℕ) → val a (xs ++ (b ∷ [])) ≡ val a xs * 256 + b
val_snoc a [] b = refl
val_snoc a (x ∷ xs) b = val_snoc (a * 256 + x) xs b

-- the number that the first i of some bytes are
pub record Up (bs : List ℕ) (x i : ℕ) : Type 0 where
  pub most : i ≤ length bs
  pub is : x ≡ val 0 (take i bs)
  pub below : x < 256 ^ i

pub up_first : (bs : List ℕ) → Up bs 0 0
up_first bs = record { most = omega arith; is = refl; below = omega arith }

pub up : {bs : List ℕ} {x i : ℕ} (b : ℕ) → Up bs x i → i < length bs → b ≡ get_or bs i 0 → b < 256 → Up bs (x * 256 + b) (i + 1)
up {bs} {x} {i} b u h g k =
    let u1 = u.below in
    let e : take (suc i) bs ≡ take i bs ++ (get_or bs i 0 ∷ []) = take-suc bs i 0 h in
    record {
      most = omega arith;
      is = rw (add-one i, e, val_snoc 0 (take i bs) (get_or bs i 0), ← g, u.is);
      below = rw (add-one i, pow-succ' 256 i) (omega arith);
    }

-- a number of fewer than eight bytes leaves room for one more
pub room_up : {bs : List ℕ} {x i : ℕ} → Up bs x i → i < length bs → length bs ≤ 8 → x < 2 ^ 56
room_up {bs} {x} {i} u h k =
    let b = u.below in
    let m : 256 ^ i ≤ 256 ^ 7 = pow-le-pow_right {n = 256} (omega arith) {i = i} {j = 7} (omega arith) in
    omega arith

pub up_last : {bs : List ℕ} {x i : ℕ} → Up bs x i → length bs ≤ i → Word (length bs) (val 0 bs) x
up_last {bs} {x} {i} u h =
    let m = u.most in
    let e : i ≡ length bs = omega arith in
    record { is = u.is ∙ rw (e, take-length bs); below = rw e at u.below }

-- a part that was found lies within the list
pub part_room : (s : List ℕ) (at n : ℕ) {next : ℕ} → part_of s at n ≡ Some next → (at + n ≤ length s) × (next ≡ at + n)
unfolding part_of fits
part_room s at n {next} e =
    chosen (fits s at n) (Some (at + n)) None e (λ z. never (cc)) (λ f q.
    let z : at + n ≡ next = cc in
    (leb-true (at + n) (length s) f, sym z))

-- a number that is too wide, is not all there, or was got
pub got_wide : (n : ℕ) (s : List ℕ) (at : ℕ) → 8 < n → None ≡ get_of n s at
unfolding get_of
got_wide n s at h = simp (lt-leb n 8 h)

pub got_none : (n : ℕ) (s : List ℕ) (at : ℕ) → length s < at + n → None ≡ get_of n s at
unfolding get_of
got_none n s at h = rw (no_room s at n h) (go (leb n 8))
  where
    go : (b : Bool) → None ≡ pick {A = Option (ℕ × ℕ)} b None None
    go true = refl
    go false = refl

pub got_some : (n : ℕ) (s : List ℕ) (at : ℕ) {next x : ℕ} → n ≤ 8 → next ≡ at + n → next ≤ length s
    → x ≡ val 0 (take (next - at) (drop at s)) → Some (x, next) ≡ get_of n s at
unfolding get_of word
got_some n s at {next} {x} h e k v =
    let d : next - at ≡ n = omega arith in
    simp (le-leb n 8 h, has_room_lem s at n (omega arith), v, d, ← e)

-- what n bytes from index at are, where all of them are there
pub got_here : (n : ℕ) (s : List ℕ) (at : ℕ) → n ≤ 8 → at + n ≤ length s → get_of n s at ≡ Some (word n s at, at + n)
unfolding get_of
got_here n s at h k = simp (le-leb n 8 h, has_room_lem s at n k)

-- one byte is its own number, whatever it is
pub word_one : (s : List ℕ) (at : ℕ) → at < length s → word 1 s at ≡ get_or s at 0
unfolding word
word_one s at h = let e : 0 + get_or s at 0 ≡ get_or s at 0 = omega arith in rw (drop-cons s at 0 h) e

pub got_byte : (s : List ℕ) (at : ℕ) → at + 1 ≤ length s → get_of 1 s at ≡ Some (get_or s at 0, at + 1)
got_byte s at h = rw (got_here 1 s at (omega arith) h, word_one s at (omega arith)) refl

-- a number that was got, or 0
abbrev number_in : Option (ℕ × ℕ) → ℕ
number_in r = opened r (λ (x, next). x) 0

word_by : (n : ℕ) (s : List ℕ) (at : ℕ) → word_at n s at ≡ number_in (get_of n s at)
unfolding word_at get_of
word_by n s at = go (leb n 8) (fits s at n)
  where
    go : (a b : Bool) → pick a (pick b (word n s at) 0) 0 ≡ number_in (pick a (pick b (Some (word n s at, at + n)) None) None)
    go true true = refl
    go true false = refl
    go false b = refl

pub pow_256 : (n : ℕ) → 0 < 256 ^ n
pow_256 zero = omega arith
pow_256 (suc n) = let h : 0 < 256 ^ n = pow_256 n in rw (pow-succ' 256 n) (omega arith)

pub word_got : (n : ℕ) (s : List ℕ) (at : ℕ) {x next : ℕ} → ◌≡◌ {A = Option (ℕ × ℕ)} (Some (x, next)) (get_of n s at) → x < 256 ^ n → Word n (word_at n s at) x
word_got n s at e b = record { is = ap number_in e ∙ sym (word_by n s at); below = b }

pub word_none : (n : ℕ) (s : List ℕ) (at : ℕ) → None ≡ get_of n s at → Word n (word_at n s at) 0
word_none n s at e = record { is = ap number_in e ∙ sym (word_by n s at); below = pow_256 n }

-- what n bytes that are all there are
pub word_is : (n : ℕ) (s : List ℕ) (at : ℕ) → n ≤ 8 → at + n ≤ length s → word_at n s at ≡ word n s at
unfolding word_at
word_is n s at h k = simp (le-leb n 8 h, has_room_lem s at n k)

pub length_over : (l : List ℕ) (at : ℕ) (bs : List ℕ) → at + length bs ≤ length l → length (over l at bs) ≡ length l
length_over l at bs h = simp (length-append, length-take-le at l (omega arith), length-drop) (omega arith)

-- a write that had room, after bytes that were laid
pub chain_put : {l : List ℕ} {at : ℕ} {xs ys m l' : List ℕ} {k : ℕ} {p : Option ℕ} → Laid l at xs m k → Wrote true m k ys l' p
    → at + length xs + length ys ≤ length l → Laid l at (xs ++ ys) l' (k + length ys)
chain_put {l} {at} {xs} {ys} {m} {l'} {k} a w h =
    let n : length m ≡ length l = ap length a.list ∙ length_over l at xs (omega arith) in
    let e = a.next in
    chain a (laid_by w refl (omega arith)) (omega arith)
