-- Bytes that stand at an index of a list, and numbers as bytes and back. Assumes nothing.
use Prim.Native.Nat.{ℕ, zero, suc, ◌+◌, ◌*◌, ◌/◌, ◌%◌, ◌^◌, ◌≤◌, ◌<◌}
use mathlib.Core.Path.{◌≡◌, refl, sym, ◌∙◌, ap}
use mathlib.Core.List.{List, [], ◌∷◌, ◌++◌, append_assoc}
use native.Mathlib.Nat.{pow-succ', pow-le-pow_right, div-one}
use native.Mathlib.Omega.{arith}
use lib.ListN.{length, take, drop, get_or, length-append, length-take, length-drop, take-append-drop}
use lib.Seq.{take_at, drop_at, length-take-le}
use lib.Dec.{lit<}
use lib.Arith.{mod-mul, digits_lt, digits_div}
use Rattle.codec.specs.Number.{be, val, shr, word, Bytes}
use Rattle.codec.proofs.NumberLaws.{pow_256}

-- bs stand in s at index at
pub record Stands (s : List ℕ) (at : ℕ) (bs : List ℕ) : Type 0 where
  pub pre : List ℕ
  pub post : List ℕ
  pub split : s ≡ pre ++ bs ++ post
  pub len : length pre ≡ at

pub left : {s : List ℕ} {at : ℕ} (xs ys : List ℕ) → Stands s at (xs ++ ys) → Stands s at xs
left xs ys w = record { pre = w.pre; post = ys ++ w.post; split = w.split ∙ simp append_assoc; len = w.len }

pub right : {s : List ℕ} {at : ℕ} (xs ys : List ℕ) → Stands s at (xs ++ ys) → Stands s (at + length xs) ys
right {s} {at} xs ys w = record { pre = w.pre ++ xs; post = w.post; split = w.split ∙ simp append_assoc; len = simp (length-append, w.len) }

pub part_back : {s : List ℕ} {at : ℕ} {bs : List ℕ} → Stands s at bs → take (length bs) (drop at s) ≡ bs
part_back {s} {at} {bs} w =
    rw (w.split, append_assoc, drop_at w.pre (bs ++ w.post) at w.len) (take_at bs w.post (length bs) refl)

pub room_back : {s : List ℕ} {at : ℕ} {bs : List ℕ} → Stands s at bs → at + length bs ≤ length s
room_back {s} {at} {bs} w = rw w.split (simp (length-append, w.len) (omega arith))

-- bytes that stand right after others stand with them: what is before the second is the first and what is before it
pub join : {s : List ℕ} {at : ℕ} {xs ys : List ℕ} → Stands s at xs → Stands s (at + length xs) ys → Stands s at (xs ++ ys)
join {s} {at} {xs} {ys} w v =
    let n : length (w.pre ++ xs) ≡ at + length xs = simp (length-append, w.len) in
    let p : take (at + length xs) s ≡ w.pre ++ xs = rw w.split (take_at (w.pre ++ xs) w.post (at + length xs) n) in
    let q : take (at + length xs) s ≡ v.pre = rw (v.split, append_assoc) (take_at v.pre (ys ++ v.post) (at + length xs) v.len) in
    let e : v.pre ≡ w.pre ++ xs = sym q ∙ p in
    record { pre = w.pre; post = v.post; split = v.split ∙ ap (λ (l : List ℕ). l ++ ys ++ v.post) e ∙ simp append_assoc; len = w.len }

pub stands_part : (s : List ℕ) (at n : ℕ) → at + n ≤ length s → Stands s at (take n (drop at s))
stands_part s at n h = record {
  pre = take at s;
  post = drop n (drop at s);
  split = sym (rw (append_assoc, take-append-drop n (drop at s)) (take-append-drop at s));
  len = length-take-le at s (omega arith);
}

pub stands_none : (s : List ℕ) (at : ℕ) → at ≤ length s → Stands s at []
stands_none s at h = stands_part s at 0 (omega arith)

-- lists of bytes
bytes_take : (n : ℕ) (s : List ℕ) → Bytes s → Bytes (take n s)
bytes_take zero s h = tt
bytes_take (suc n) [] h = tt
bytes_take (suc n) (b ∷ s) h = (h.0, bytes_take n s h.1)

bytes_drop : (n : ℕ) (s : List ℕ) → Bytes s → Bytes (drop n s)
bytes_drop zero s h = h
bytes_drop (suc n) [] h = tt
bytes_drop (suc n) (b ∷ s) h = bytes_drop n s h.1

pub bytes_part : (s : List ℕ) (at n : ℕ) → Bytes s → Bytes (take n (drop at s))
bytes_part s at n h = bytes_take n (drop at s) (bytes_drop at s h)

pub bytes_join : (xs ys : List ℕ) → Bytes xs → Bytes ys → Bytes (xs ++ ys)
bytes_join [] ys h k = k
bytes_join (x ∷ xs) ys h k = (h.0, bytes_join xs ys h.1 k)

pub bytes-at : (s : List ℕ) (i : ℕ) → Bytes s → get_or s i 0 < 256
bytes-at [] i h = omega arith
bytes-at (b ∷ s) zero h = h.0
bytes-at (b ∷ s) (suc i) h = bytes-at s i h.1

pub bytes_of : (s : List ℕ) → ((i : ℕ) → i < length s → get_or s i 0 < 256) → Bytes s
bytes_of [] f = tt
bytes_of (b ∷ s) f = (f 0 (omega arith), bytes_of s (λ i h. f (suc i) (omega arith)))

-- a number's bytes are the number again
shr_is : (n v : ℕ) → shr n v ≡ v / 256 ^ n
shr_is zero v = sym (div-one v)
shr_is (suc n) v = refl

pub val-be : (n a v : ℕ) → val a (be n v) ≡ a * 256 ^ n + v % 256 ^ n
val-be zero a v = omega arith
val-be (suc n) a v =
    let p : 0 < 256 ^ n = pow_256 n in
    let m : v % (256 * 256 ^ n) ≡ v / 256 ^ n % 256 * 256 ^ n + v % 256 ^ n = mod-mul v (lit< tt) p in
    rw (pow-succ' 256 n, m, val-be n (a * 256 + shr n v % 256) v, shr_is n v) (omega arith)

pub bytes_be : (n v : ℕ) → Bytes (be n v)
bytes_be zero v = tt
bytes_be (suc n) v = (omega arith, bytes_be n v)

-- bytes are their number's bytes again, whatever number stands before them
val_from : (a : ℕ) (bs : List ℕ) → val a bs ≡ a * 256 ^ length bs + val 0 bs
val_from a [] = omega arith
val_from a (b ∷ bs) = rw (pow-succ' 256 (length bs), val_from (a * 256 + b) bs, val_from (0 * 256 + b) bs) (omega arith)

val_below : (bs : List ℕ) → Bytes bs → val 0 bs < 256 ^ length bs
val_below [] h = omega arith
val_below (b ∷ bs) h = rw (pow-succ' 256 (length bs), val_from (0 * 256 + b) bs) (digits_lt (omega arith) (val_below bs h.1))

be_from : (a : ℕ) (bs : List ℕ) → Bytes bs → be (length bs) (val a bs) ≡ bs
be_from a [] h = refl
be_from a (b ∷ bs) h =
    let q : shr (length bs) (val (a * 256 + b) bs) ≡ a * 256 + b
    = shr_is (length bs) (val (a * 256 + b) bs) ∙ rw (val_from (a * 256 + b) bs) (digits_div (a * 256 + b) (val_below bs h.1)) in
    let e : (a * 256 + b) % 256 ≡ b = omega (arith, h.0) in
    rw (q, e, be_from (a * 256 + b) bs h.1)

pub be-val : (bs : List ℕ) → Bytes bs → be (length bs) (val 0 bs) ≡ bs
be-val bs h = be_from 0 bs h

pub word_stands : (n : ℕ) (s : List ℕ) (at : ℕ) → Bytes s → at + n ≤ length s → Stands s at (be n (word n s at))
unfolding word
word_stands n s at b h =
    let l : length (take n (drop at s)) ≡ n = length-take-le n (drop at s) (simp length-drop (omega arith)) in
    let e : be n (val 0 (take n (drop at s))) ≡ take n (drop at s)
    = ap (λ (k : ℕ). be k (val 0 (take n (drop at s)))) (sym l) ∙ be-val (take n (drop at s)) (bytes_part s at n b) in
    rw e (stands_part s at n h)

pub word_below : (n : ℕ) (s : List ℕ) (at : ℕ) → Bytes s → word n s at < 256 ^ n
unfolding word
word_below n s at b =
    let k = val_below (take n (drop at s)) (bytes_part s at n b) in
    let l : length (take n (drop at s)) ≤ n = simp length-take (omega arith) in
    let m : 256 ^ length (take n (drop at s)) ≤ 256 ^ n = pow-le-pow_right {n = 256} (omega arith) {i = length (take n (drop at s))} {j = n} l in
    omega arith
