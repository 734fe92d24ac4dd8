-- Laws of a text that grows at its end, of any room. Assumes nothing.
use Prim.Native.Nat.{ℕ, ◌+◌, ◌-◌, ◌*◌, ◌≤◌}
use mathlib.Core.Path.{◌≡◌, refl, sym, ◌∙◌, ap}
use mathlib.Core.Bool.{Bool, true, false}
use mathlib.Core.List.{List, [], ◌∷◌, ◌++◌, append_assoc, append-nil}
use native.Mathlib.Omega.{arith}
use lib.ListN.{length, take, drop, length-append, length-take, drop_of_length-le}
use lib.Seq.{take_all, take-append_seam, take-append-add}
use lib.Dec.{leb}
use borrow.Author.Tests.{leb-true, leb-false}
use Rattle.std.proofs.lemmas.List.{take-append-le}
use Rattle.std.specs.Prelude.{Option}
use Rattle.codec.specs.Number.{over, Wrote}
use Rattle.codec.proofs.NumberLaws.{kept}
use Rattle.text.specs.Draft.{Adds, field_text, numbers_of, row_of}
use Rattle.text.proofs.PutLaws.{decimal_length}

-- a text cut twice
cut_twice : (n : ℕ) (a b : List ℕ) → take n (take n a ++ b) ≡ take n (a ++ b)
cut_twice n a b = go (leb (length a) n) refl
  where
    go : (t : Bool) → leb (length a) n ≡ t → take n (take n a ++ b) ≡ take n (a ++ b)
    go true e = ap (λ (x : List ℕ). take n (x ++ b)) (take_all n a (leb-true (length a) n e))
    go false e =
        let h = leb-false (length a) n e in
        let m : length (take n a) ≡ n = length-take n a ∙ omega arith in
        take-append-le n (take n a) b (omega arith) ∙ take_all n (take n a) (omega arith) ∙ sym (take-append-le n a b (omega arith))

-- one after the other
pub adds_then : {n : ℕ} {a b c x y : List ℕ} → Adds n a x b → Adds n b y c → Adds n a (x ++ y) c
adds_then {n} {a} {b} {c} {x} {y} p q =
    record { is = q.is ∙ ap (λ (z : List ℕ). take n (z ++ y)) p.is ∙ cut_twice n (a ++ x) y ∙ ap (take n) (append_assoc a x y) }

-- the same text under another name
pub adds_as : {n : ℕ} {a b x y : List ℕ} → Adds n a x b → x ≡ y → Adds n a y b
adds_as {n} {a} {b} p e = rw e at p

-- what was empty holds the text, cut
pub adds_first : {n : ℕ} {z x d : List ℕ} → z ≡ [] → Adds n z x d → d ≡ take n x
adds_first {n} {z} {x} e p = p.is ∙ ap (λ (y : List ℕ). take n (y ++ x)) e

-- a text that fits stands whole
pub adds_all : {n : ℕ} {z x d : List ℕ} → z ≡ [] → Adds n z x d → length x ≤ n → d ≡ x
adds_all {n} {z} {x} e p h = adds_first e p ∙ take_all n x h

-- and is what is written
pub draft_wrote : {n : ℕ} {z x d l l' : List ℕ} {at : ℕ} {r : Option ℕ} → z ≡ [] → Adds n z x d → length x ≤ n → Wrote true l at d l' r → Wrote true l at x l' r
draft_wrote e p h w = rw (adds_all e p h) at w

-- the bytes of a push
pub pushed : (n : ℕ) (b : List ℕ) (k : ℕ) (s : List ℕ) {old part l' : List ℕ} {r : Option ℕ} → length b ≡ n → k ≤ n → take k b ≡ old → part ≡ take (n - k) s
    → Wrote true b k part l' r → Adds n old s (take (k + length part) l')
pushed n b k s {old} {part} {l'} z h v p w =
    let m : k + length part ≤ n = omega (arith, ap length p, length-take (n - k) s) in
    let i : length (take k b) ≡ k = length-take k b ∙ omega arith in
    let j : length (take k b ++ part) ≡ k + length part = length-append (take k b) part ∙ omega arith in
    let e : l' ≡ over b k part = kept w (omega arith) in
    let f : take (k + length part) l' ≡ take k b ++ part
    = ap (take (k + length part)) e ∙ ap (λ (i : ℕ). take i ((take k b ++ part) ++ drop (k + length part) b)) (sym j) ∙ take-append_seam (take k b ++ part) (drop (k + length part) b) in
    let q : length (take k b) + (n - k) ≡ n = omega arith in
    let g : take n (take k b ++ s) ≡ take k b ++ part
    = ap (λ (i : ℕ). take i (take k b ++ s)) (sym q) ∙ take-append-add (take k b) s (n - k) ∙ ap (λ (x : List ℕ). take k b ++ x) (sym p) in
    rw (← v) record { is = f ∙ sym g }

-- the bytes of a push that fits
pub pushed_whole : (n : ℕ) (b : List ℕ) (k : ℕ) (s : List ℕ) {old l' : List ℕ} {r : Option ℕ} → length b ≡ n → k ≤ n → take k b ≡ old → length s ≤ n - k
    → Wrote true b k s l' r → Adds n old s (take (k + length s) l')
pushed_whole n b k s z h v f w = pushed n b k s z h v (sym (take_all (n - k) s f)) w

-- a row: with the numbers that are left, what stands comes to the whole
pub record Rowing (n : ℕ) (name vs d : List ℕ) (i : ℕ) : Type 0 where
  pub left : take n (d ++ numbers_of (drop i vs)) ≡ take n (name ++ numbers_of vs)

pub rowing_end : {n : ℕ} {name vs d d' : List ℕ} {i : ℕ} → Rowing n name vs d i → length vs ≤ i → Adds n d (10 ∷ []) d' → d' ≡ take n (row_of name vs)
unfolding row_of
rowing_end {n} {name} {vs} {d} {d'} {i} g h p =
    let f : take n d ≡ take n (name ++ numbers_of vs)
    = ap (take n) (sym (append-nil d)) ∙ ap (λ (x : List ℕ). take n (d ++ numbers_of x)) (sym (drop_of_length-le vs h)) ∙ g.left in
    p.is ∙ sym (cut_twice n d (10 ∷ [])) ∙ ap (λ (x : List ℕ). take n (x ++ (10 ∷ []))) f ∙ cut_twice n (name ++ numbers_of vs) (10 ∷ [])

-- behind what stood before
pub rowing_adds : {n : ℕ} {old vs d d' : List ℕ} {i : ℕ} (name : List ℕ) → Rowing n (old ++ name) vs d i → length vs ≤ i → Adds n d (10 ∷ []) d'
    → Adds n old (row_of name vs) d'
unfolding row_of
rowing_adds {n} {old} {vs} name g h p =
    let e = ap (λ (x : List ℕ). take n (x ++ (10 ∷ []))) (append_assoc old name (numbers_of vs)) in
    record { is = rowing_end {name = old ++ name} g h p ∙ e ∙ ap (take n) (append_assoc old (name ++ numbers_of vs) (10 ∷ [])) }

-- a number has at most 20 digits
pub field_length : (v : ℕ) → length (field_text v) ≤ 21
unfolding field_text
field_length v = omega (arith, decimal_length v)

numbers_most : (vs : List ℕ) → length (numbers_of vs) ≤ 21 * length vs
numbers_most [] = omega arith
numbers_most (v ∷ vs) =
    let r = numbers_most vs in
    simp length-append (omega (arith, field_length v))

pub row_most : (j k : ℕ) (name vs : List ℕ) → length name ≤ j → length vs ≤ k → length (row_of name vs) ≤ j + 21 * k + 1
unfolding row_of
row_most j k name vs p q = simp length-append (omega (arith, numbers_most vs))

-- a row that fits stands whole
pub row_is : {n : ℕ} (j k : ℕ) (name vs : List ℕ) {d : List ℕ} → d ≡ take n (row_of name vs) → length name ≤ j → length vs ≤ k → j + 21 * k + 1 ≤ n
    → d ≡ row_of name vs
row_is {n} j k name vs e p q h = e ∙ take_all n (row_of name vs) (omega (arith, row_most j k name vs p q))

-- and is what is written
pub row_put : {n : ℕ} (j k : ℕ) (name vs : List ℕ) {d l l' : List ℕ} {at : ℕ} {r : Option ℕ} → d ≡ take n (row_of name vs) → Wrote true l at d l' r
    → length name ≤ j → length vs ≤ k → j + 21 * k + 1 ≤ n → Wrote true l at (row_of name vs) l' r
row_put j k name vs e w p q h = rw (row_is j k name vs e p q h) at w

-- and the same of one that was put together in an empty text
pub row_wrote : {n : ℕ} (j k : ℕ) (name vs : List ℕ) {z d l l' : List ℕ} {at : ℕ} {r : Option ℕ} → z ≡ [] → Adds n z (row_of name vs) d → Wrote true l at d l' r
    → length name ≤ j → length vs ≤ k → j + 21 * k + 1 ≤ n → Wrote true l at (row_of name vs) l' r
row_wrote j k name vs e p w a b h = row_put j k name vs (adds_first e p) w a b h
