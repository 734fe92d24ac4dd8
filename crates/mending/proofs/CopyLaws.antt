-- Laws of the copy of a whole file. Assumes nothing.
use Prim.Native.Nat.{ℕ, zero, suc, ◌+◌, ◌≤◌}
use mathlib.Core.Path.{◌≡◌, refl, sym, ◌∙◌, ap}
use mathlib.Core.Bool.{Bool, true, false}
use mathlib.Core.List.{List, [], ◌∷◌, ◌++◌, append_assoc}
use native.Mathlib.Omega.{arith}
use lib.ListN.{length, take, drop, length-drop, take-append-drop}
use lib.Seq.{length-take-le, take-append-le, take-length, drop-length}
use Rattle.codec.specs.Choice.{pick}
use Rattle.recording.specs.File.{Raw, Finding, length_in, size_in, complete, first, left_of, finding_of, findings_of}
use Rattle.recording.proofs.FileLaws.{there, is_there, is_cut, body-length, fields_more, fields_end, left_more, left_end, findings_more, findings_end, length-stays, size_stays, stays-complete, first-stays, rest_stays}
use Rattle.mending.specs.Copy.{stays, kept_by, along_kept, copy_of, stayed, AllStay}
use Rattle.mending.specs.Damage.{Whole}

-- Induction over the fields of a file.
module _ (P : List ℕ → Type 0) (at_end : (s : List ℕ) → complete s ≡ false → P s)
    (at_field : (s : List ℕ) → complete s ≡ true → P (drop (size_in s) s) → P s) where
  one_field : (s : List ℕ) (b : Bool) → complete s ≡ b → P (drop (size_in s) s) → P s
  one_field s true c i = at_field s c i
  one_field s false c i = at_end s c

  within : (n : ℕ) (s : List ℕ) → length s ≤ n → P s
  within zero s h = at_end s (is_cut s (omega arith))
  within (suc n) s h =
      let f : length (drop (size_in s) s) ≤ n = rw (length-drop (size_in s) s) (omega arith) in
      one_field s (complete s) refl (within n (drop (size_in s) s) f)

  pub by_fields : (s : List ℕ) → P s
  by_fields s = within (length s) s (omega arith)

-- what the copy has of the first field of a file
abbrev pub front_kept : List ℕ → List ℕ
front_kept s = kept_by (first s) (take (size_in s) s)

pub copy_more : (s : List ℕ) → complete s ≡ true → copy_of s ≡ front_kept s ++ copy_of (drop (size_in s) s)
unfolding copy_of along_kept
copy_more s c = rw (fields_more s c, body-length s c)

pub copy_end : (s : List ℕ) → complete s ≡ false → copy_of s ≡ []
unfolding copy_of along_kept
copy_end s c = rw (fields_end s c)

pub none_there : complete [] ≡ false
none_there = is_cut [] (omega arith)

-- The first field of a file, cut out of it, is a whole field and the same one.
module _ (s : List ℕ) (c : complete s ≡ true) where
  front_length : length (take (size_in s) s) ≡ size_in s
  front_length = length-take-le (size_in s) s (there s c)

  front_size : size_in (take (size_in s) s) ≡ size_in s
  front_size =
      let e = front_length in
      let n : length_in (take (size_in s) s ++ drop (size_in s) s) ≡ length_in (take (size_in s) s)
      = length-stays (take (size_in s) s) (drop (size_in s) s) (omega arith) in
      ap (λ (k : ℕ). 3 + k) (sym n ∙ ap length_in (take-append-drop (size_in s) s))

  pub front_whole : Whole (take (size_in s) s)
  front_whole =
      let e = front_length in
      let f = front_size in
      record { there = is_there (take (size_in s) s) (omega arith); size = f ∙ sym e }

  pub front_first : first (take (size_in s) s) ≡ first s
  front_first =
      sym (first-stays (take (size_in s) s) (drop (size_in s) s) front_whole.there) ∙ ap first (take-append-drop (size_in s) s)

-- A whole field in front of a file is its first field, whatever the file.
module _ (x t : List ℕ) (w : Whole x) where
  whole_rest : drop (size_in (x ++ t)) (x ++ t) ≡ t
  whole_rest = rest_stays x t w.there ∙ rw (w.size, drop-length x)

  whole_front : take (size_in (x ++ t)) (x ++ t) ≡ x
  whole_front =
      let e = w.size in
      rw (size_stays x t w.there, w.size) (take-append-le (length x) x t (omega arith) ∙ take-length x)

  pub whole_left : left_of (x ++ t) ≡ left_of t
  whole_left = left_more (x ++ t) (stays-complete x t w.there) ∙ ap left_of whole_rest

  pub whole_findings : findings_of (x ++ t) ≡ finding_of (first x) ∷ findings_of t
  whole_findings =
      findings_more (x ++ t) (stays-complete x t w.there) ∙ rw whole_rest (ap (λ (f : Raw). finding_of f ∷ findings_of t) (first-stays x t w.there))

  pub whole_copy : copy_of (x ++ t) ≡ kept_by (first x) x ++ copy_of t
  whole_copy =
      copy_more (x ++ t) (stays-complete x t w.there)
      ∙ rw (whole_front, whole_rest) (ap (λ (f : Raw). kept_by f x ++ copy_of t) (first-stays x t w.there))

-- A file after a file: the copy of the first, then that of what it left and the second.
pub copy_append : (x s : List ℕ) → copy_of (s ++ x) ≡ copy_of s ++ copy_of (left_of s ++ x)
copy_append x = by_fields (λ s. copy_of (s ++ x) ≡ copy_of s ++ copy_of (left_of s ++ x)) (λ s c. rw (copy_end s c, left_end s c)) more
  where
    more : (s : List ℕ) → complete s ≡ true
        → copy_of (drop (size_in s) s ++ x) ≡ copy_of (drop (size_in s) s) ++ copy_of (left_of (drop (size_in s) s) ++ x)
        → copy_of (s ++ x) ≡ copy_of s ++ copy_of (left_of s ++ x)
    more s c i =
        let f : take (size_in (s ++ x)) (s ++ x) ≡ take (size_in s) s
        = rw (size_stays s x c) (take-append-le (size_in s) s x (there s c)) in
        copy_more (s ++ x) (stays-complete s x c)
        ∙ ap (λ (g : Raw). kept_by g (take (size_in (s ++ x)) (s ++ x)) ++ copy_of (drop (size_in (s ++ x)) (s ++ x))) (first-stays s x c)
        ∙ rw (f, rest_stays s x c, i, copy_more s c, left_more s c)
        (sym (append_assoc (front_kept s) (copy_of (drop (size_in s) s)) (copy_of (left_of (drop (size_in s) s) ++ x))))

-- THE COPY: its findings are those of the file that stay, nothing is left after them, and it is its own copy.
pub record Mended (s : List ℕ) : Type 0 where
  pub findings : findings_of (copy_of s) ≡ stayed (findings_of s)
  pub left : left_of (copy_of s) ≡ []
  pub again : copy_of (copy_of s) ≡ copy_of s

mended_end : (s : List ℕ) → complete s ≡ false → Mended s
mended_end s c = record {
  findings = rw (copy_end s c, findings_end s c) (findings_end [] none_there);
  left = rw (copy_end s c) (left_end [] none_there);
  again = rw (copy_end s c) (copy_end [] none_there);
}

mended_more : (s : List ℕ) → complete s ≡ true → Mended (drop (size_in s) s) → Mended s
mended_more s c i = go (stays (finding_of (first s)).found) refl
  where
    go : (b : Bool) → stays (finding_of (first s)).found ≡ b → Mended s
    go false e =
        let k : copy_of s ≡ copy_of (drop (size_in s) s) = copy_more s c ∙ rw e in
        record { findings = rw (k, i.findings, findings_more s c, e); left = rw k i.left; again = rw k i.again }
    go true e =
        let x = take (size_in s) s in
        let y = copy_of (drop (size_in s) s) in
        let w = front_whole s c in
        let f = front_first s c in
        let k : copy_of s ≡ x ++ y = copy_more s c ∙ rw e in
        record {
          findings = rw k (whole_findings x y w ∙ ap (λ (g : Raw). finding_of g ∷ findings_of y) f ∙ rw (i.findings, findings_more s c, e));
          left = rw k (whole_left x y w ∙ i.left);
          again = rw k (whole_copy x y w ∙ ap (λ (g : Raw). kept_by g x ++ copy_of y) f ∙ rw (e, i.again));
        }

pub mended : (s : List ℕ) → Mended s
mended = by_fields Mended mended_end mended_more

pub all_stay : (fs : List Finding) → AllStay (stayed fs)
all_stay [] = tt
all_stay (f ∷ fs) = go (stays f.found) refl (all_stay fs)
  where
    go : (b : Bool) → stays f.found ≡ b → AllStay (stayed fs) → AllStay (pick b (f ∷ stayed fs) (stayed fs))
    go true e i = (e, i)
    go false e i = i

-- a file in which nothing is bad and nothing is left is its own copy
pub own_copy : (s : List ℕ) → AllStay (findings_of s) → left_of s ≡ [] → copy_of s ≡ s
own_copy = by_fields (λ s. AllStay (findings_of s) → left_of s ≡ [] → copy_of s ≡ s) (λ s c a l. copy_end s c ∙ sym l ∙ left_end s c) more
  where
    more : (s : List ℕ) → complete s ≡ true
        → (AllStay (findings_of (drop (size_in s) s)) → left_of (drop (size_in s) s) ≡ [] → copy_of (drop (size_in s) s) ≡ drop (size_in s) s)
        → AllStay (findings_of s) → left_of s ≡ [] → copy_of s ≡ s
    more s c i a l =
        let k : AllStay (finding_of (first s) ∷ findings_of (drop (size_in s) s)) = rw (findings_more s c) at a in
        copy_more s c ∙ rw (k.0, i k.1 (sym (left_more s c) ∙ l)) (take-append-drop (size_in s) s)
