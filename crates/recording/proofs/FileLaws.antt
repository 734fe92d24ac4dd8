-- Laws of a file's fields: one after the other, and a file after a file. Assumes nothing.
use Prim.Native.Nat.{ℕ, zero, suc, ◌+◌, ◌≤◌, ◌<◌}
use mathlib.Core.Path.{◌≡◌, refl, sym, ◌∙◌, ap}
use mathlib.Core.Bool.{Bool, true, false}
use mathlib.Core.List.{List, [], ◌∷◌, ◌++◌, map}
use native.Mathlib.Omega.{arith}
use lib.ListN.{length, take, drop, length-drop, length-append, get_or-append}
use lib.Seq.{drop-append-le, take-append-le, length-take-le}
use borrow.Author.Tests.{le-leb, lt-leb, leb-true, leb-false}
use Rattle.codec.specs.Choice.{pick}
use Rattle.codec.proofs.Opened.{never}
use Rattle.recording.specs.File.{Raw, Finding, length_in, size_in, complete, first, along, fields_of, left_of, finding_of, findings_of, skips}

-- a field is there, or not yet
pub there : (s : List ℕ) → complete s ≡ true → size_in s ≤ length s
unfolding complete
there s e = leb-true (size_in s) (length s) e

pub not_yet : (s : List ℕ) → complete s ≡ false → length s < size_in s
unfolding complete
not_yet s e = leb-false (size_in s) (length s) e

pub is_there : (s : List ℕ) → size_in s ≤ length s → complete s ≡ true
unfolding complete
is_there s h = le-leb (size_in s) (length s) h

pub is_cut : (s : List ℕ) → length s < size_in s → complete s ≡ false
unfolding complete
is_cut s h = lt-leb (size_in s) (length s) h

pub body-length : (s : List ℕ) → complete s ≡ true → length (first s).body ≡ length_in s
body-length s e =
    let h = there s e in
    length-take-le (length_in s) (drop 3 s) (rw (length-drop 3 s) (omega arith))

-- any bound on the fields that the bytes allow gives the same
module _ {A : Type 0} (end : List ℕ → A) (more : Raw → A → A) where
  along-zero : (n : ℕ) (s : List ℕ) → length s ≤ 0 → along end more n s ≡ end s
  unfolding along
  along-zero zero s h = refl
  along-zero (suc n) s h = simp (is_cut s (omega arith))

  along_fuel : (m n : ℕ) (s : List ℕ) → length s ≤ m → length s ≤ n → along end more m s ≡ along end more n s
  unfolding along
  along_fuel zero n s h k = along-zero zero s h ∙ sym (along-zero n s h)
  along_fuel (suc m) zero s h k = along-zero (suc m) s k ∙ sym (along-zero zero s k)
  along_fuel (suc m) (suc n) s h k =
      let f : length (drop (size_in s) s) ≤ m = rw (length-drop (size_in s) s) (omega arith) in
      let g : length (drop (size_in s) s) ≤ n = rw (length-drop (size_in s) s) (omega arith) in
      ap (λ (r : A). pick (complete s) (more (first s) r) (end s)) (along_fuel m n (drop (size_in s) s) f g)

  along_more : (n : ℕ) (s : List ℕ) → length s ≤ n → complete s ≡ true
      → along end more n s ≡ more (first s) (along end more (length (drop (size_in s) s)) (drop (size_in s) s))
  unfolding along
  along_more zero s h e = let k = there s e in let z : ◌≡◌ {A = ℕ} 0 1 = omega arith in never z
  along_more (suc n) s h e =
      let f : length (drop (size_in s) s) ≤ n = rw (length-drop (size_in s) s) (omega arith) in
      simp e (ap (more (first s)) (along_fuel n (length (drop (size_in s) s)) (drop (size_in s) s) f (omega arith)))

  along_end : (n : ℕ) (s : List ℕ) → complete s ≡ false → along end more n s ≡ end s
  unfolding along
  along_end zero s e = refl
  along_end (suc n) s e = simp e

module _ (s : List ℕ) where
  pub fields_more : complete s ≡ true → fields_of s ≡ first s ∷ fields_of (drop (size_in s) s)
  unfolding fields_of
  fields_more e = along_more (λ rest. []) (λ f fs. f ∷ fs) (length s) s (omega arith) e

  pub fields_end : complete s ≡ false → fields_of s ≡ []
  unfolding fields_of
  fields_end e = along_end (λ rest. []) (λ f fs. f ∷ fs) (length s) s e

  pub left_more : complete s ≡ true → left_of s ≡ left_of (drop (size_in s) s)
  unfolding left_of
  left_more e = along_more (λ rest. rest) (λ f rest. rest) (length s) s (omega arith) e

  pub left_end : complete s ≡ false → left_of s ≡ s
  unfolding left_of
  left_end e = along_end (λ rest. rest) (λ f rest. rest) (length s) s e

-- a complete field stays what it is, whatever follows
module _ (s x : List ℕ) (h : 3 ≤ length s) where
  pub length-stays : length_in (s ++ x) ≡ length_in s
  length-stays = rw (get_or-append s x 0 1 (omega arith), get_or-append s x 0 2 (omega arith))

module _ (s x : List ℕ) (e : complete s ≡ true) where
  long : 3 ≤ length s
  long = let h = there s e in omega arith

  pub size_stays : size_in (s ++ x) ≡ size_in s
  size_stays = rw (length-stays s x long)

  pub stays-complete : complete (s ++ x) ≡ true
  stays-complete =
      let h = there s e in
      is_there (s ++ x) (rw (length-stays s x long, length-append s x) (omega arith))

  pub first-stays : first (s ++ x) ≡ first s
  first-stays =
      let h = there s e in
      let d : drop 3 (s ++ x) ≡ drop 3 s ++ x = drop-append-le 3 s x long in
      let t : take (length_in s) (drop 3 s ++ x) ≡ take (length_in s) (drop 3 s)
      = take-append-le (length_in s) (drop 3 s) x (rw (length-drop 3 s) (omega arith)) in
      rw (length-stays s x long, d, t, get_or-append s x 0 0 (omega arith))

  pub rest_stays : drop (size_in (s ++ x)) (s ++ x) ≡ drop (size_in s) s ++ x
  rest_stays = rw size_stays (drop-append-le (size_in s) s x (there s e))

-- a file after a file: the fields of the first, then those of what it left and the second
record Split (s x : List ℕ) : Type 0 where
  fields : fields_of (s ++ x) ≡ fields_of s ++ fields_of (left_of s ++ x)
  left : left_of (s ++ x) ≡ left_of (left_of s ++ x)

split_step : (s x : List ℕ) (b : Bool) → complete s ≡ b → Split (drop (size_in s) s) x → Split s x
split_step s x false e i = record { fields = rw (fields_end s e, left_end s e); left = rw (left_end s e) }
split_step s x true e i =
    let c = stays-complete s x e in
    record {
      fields = fields_more (s ++ x) c ∙ rw (first-stays s x e, rest_stays s x e, fields_more s e, left_more s e, i.fields);
      left = left_more (s ++ x) c ∙ rw (rest_stays s x e, left_more s e, i.left);
    }

split : (n : ℕ) (s x : List ℕ) → length s ≤ n → Split s x
split zero s x h =
    let e = is_cut s (omega arith) in
    record { fields = rw (fields_end s e, left_end s e); left = rw (left_end s e) }
split (suc n) s x h =
    let f : length (drop (size_in s) s) ≤ n = rw (length-drop (size_in s) s) (omega arith) in
    split_step s x (complete s) refl (split n (drop (size_in s) s) x f)

pub fields_append : (s x : List ℕ) → fields_of (s ++ x) ≡ fields_of s ++ fields_of (left_of s ++ x)
fields_append s x = (split (length s) s x (omega arith)).fields

pub left_append : (s x : List ℕ) → left_of (s ++ x) ≡ left_of (left_of s ++ x)
left_append s x = (split (length s) s x (omega arith)).left

-- the same of the findings
map_append : {A B : Type 0} (f : A → B) (xs ys : List A) → map f (xs ++ ys) ≡ map f xs ++ map f ys
map_append f [] ys = refl
map_append f (x ∷ xs) ys = ap (λ (r : List _). f x ∷ r) (map_append f xs ys)

pub findings_append : (s x : List ℕ) → findings_of (s ++ x) ≡ findings_of s ++ findings_of (left_of s ++ x)
unfolding findings_of
findings_append s x = rw (fields_append s x) (map_append finding_of (fields_of s) (fields_of (left_of s ++ x)))

pub findings_more : (s : List ℕ) → complete s ≡ true → findings_of s ≡ finding_of (first s) ∷ findings_of (drop (size_in s) s)
unfolding findings_of
findings_more s e = rw (fields_more s e)

pub findings_end : (s : List ℕ) → complete s ≡ false → findings_of s ≡ []
unfolding findings_of
findings_end s e = rw (fields_end s e)

pub skips_append : (xs ys : List Finding) → skips (xs ++ ys) ≡ skips xs + skips ys
skips_append [] ys = omega arith
skips_append (x ∷ xs) ys = rw (skips_append xs ys) (omega arith)
