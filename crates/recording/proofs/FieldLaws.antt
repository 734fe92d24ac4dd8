-- Laws of a field's verdict. Assumes nothing.
use Prim.Native.Nat.{ℕ, ◌≤◌, ◌<◌}
use mathlib.Core.Path.{◌≡◌, refl, sym, ◌∙◌}
use mathlib.Core.Bool.{Bool, true, false, ◌&&◌, ◌||◌}
use mathlib.Core.List.{List}
use native.Mathlib.Omega.{arith}
use lib.Dec.{leb, eqb}
use borrow.Author.Tests.{lt-ltb, le-ltb, le-leb, lt-leb, eq-eqb, ne_eqb, leb-true, leb-false, eqb-true, eqb-false}
use Rattle.codec.proofs.Opened.{never}
use Rattle.codec.proofs.BoolLaws.{and_false, or_true}
use Rattle.std.specs.Prelude.{Ok, Err}
use Rattle.codec.specs.declared.time.Time.{Time}
use Rattle.codec.specs.declared.header.Header.{Header}
use Rattle.reader.specs.Frame.{judge_of}
use Rattle.recording.specs.declared.error.RecordError.{RecordError}
use Rattle.recording.specs.declared.field.Found.{Found}
use Rattle.recording.specs.File.{short_of, frame_found, note_found, start_in, start_found, verdict, keeps}

module _ (n : ℕ) (body : List ℕ) where
  pub frame_long : 1472 < n → Err RecordError.Long ≡ frame_found n body
  unfolding frame_found short_of
  frame_long h = simp (lt-ltb 1472 n h)

  pub frame_good : {h : Header} → n ≤ 1472 → judge_of body ≡ Ok h → Ok (Found.Frame h) ≡ frame_found n body
  unfolding frame_found short_of
  frame_good k e = simp (le-ltb 1472 n k, e)

  pub start_size : (n ≡ 10 → ⊥) → Err RecordError.Start ≡ start_found n body
  unfolding start_found
  start_size h = simp (ne_eqb n 10 h)

  pub start_nanos : {t : Time} → n ≡ 10 → t ≡ start_in body → 999999999 < t.nano → Err RecordError.Start ≡ start_found n body
  unfolding start_found
  start_nanos {t} h e k = rw (← e) (simp (eq-eqb n 10 h, lt-leb t.nano 999999999 k))

  pub start_good : {t : Time} → n ≡ 10 → t ≡ start_in body → t.nano ≤ 999999999 → Ok (Found.Start t) ≡ start_found n body
  unfolding start_found
  start_good {t} h e k = rw (← e) (simp (eq-eqb n 10 h, le-leb t.nano 999999999 k))

-- the four rows of the table
module _ (tag n : ℕ) (body : List ℕ) where
  pub is_frame : tag ≡ 1 → verdict tag n body ≡ frame_found n body
  unfolding verdict
  is_frame e = simp (eq-eqb tag 1 e)

  pub is-note : (tag ≡ 1 → ⊥) → tag ≡ 2 → verdict tag n body ≡ note_found n
  unfolding verdict
  is-note a e = simp (ne_eqb tag 1 a, eq-eqb tag 2 e)

  pub is_start : (tag ≡ 1 → ⊥) → (tag ≡ 2 → ⊥) → tag ≡ 3 → verdict tag n body ≡ start_found n body
  unfolding verdict
  is_start a b e = simp (ne_eqb tag 1 a, ne_eqb tag 2 b, eq-eqb tag 3 e)

  pub is_other : (tag ≡ 1 → ⊥) → (tag ≡ 2 → ⊥) → (tag ≡ 3 → ⊥) → verdict tag n body ≡ Ok Found.Skipped
  unfolding verdict
  is_other a b d = simp (ne_eqb tag 1 a, ne_eqb tag 2 b, ne_eqb tag 3 d)

-- a body that is kept is short
pub keeps_short : (tag n : ℕ) → keeps tag n ≡ true → n ≤ 1472
unfolding keeps
keeps_short tag n e = go (leb n 1472) refl
  where
    go : (b : Bool) → leb n 1472 ≡ b → n ≤ 1472
    go true f = leb-true n 1472 f
    go false f =
        let h : 1472 < n = leb-false n 1472 f in
        let g : eqb n 10 ≡ false = ne_eqb n 10 (λ z. omega arith) in
        let z : false ≡ true = rw (f, g, and_false (eqb tag 1), and_false (eqb tag 2), and_false (eqb tag 3)) at e in
        never (cc)

-- where it is not kept, the length alone decides
module _ (tag n : ℕ) (e : keeps tag n ≡ false) where
  long_frame : tag ≡ 1 → 1472 < n
  unfolding keeps
  long_frame k = go (leb n 1472) refl
    where
      go : (b : Bool) → leb n 1472 ≡ b → 1472 < n
      go true f = let z : true ≡ false = rw (eq-eqb tag 1 k, f) at e in never (cc)
      go false f = leb-false n 1472 f

  odd_start : tag ≡ 3 → n ≡ 10 → ⊥
  unfolding keeps
  odd_start k z =
      let y : true ≡ false = rw (eq-eqb tag 3 k, eq-eqb n 10 z, or_true (eqb tag 1 && leb n 1472 || eqb tag 2 && leb n 1472)) at e in
      never (cc)

  pub unkept : (a b : List ℕ) → verdict tag n a ≡ verdict tag n b
  unkept a b = one (eqb tag 1) refl
    where
      three : (t : Bool) → (tag ≡ 1 → ⊥) → (tag ≡ 2 → ⊥) → eqb tag 3 ≡ t → verdict tag n a ≡ verdict tag n b
      three true f g h =
          let k = eqb-true tag 3 h in
          is_start tag n a f g k ∙ sym (start_size n a (odd_start k)) ∙ start_size n b (odd_start k) ∙ sym (is_start tag n b f g k)
      three false f g h = is_other tag n a f g (eqb-false tag 3 h) ∙ sym (is_other tag n b f g (eqb-false tag 3 h))

      two : (t : Bool) → (tag ≡ 1 → ⊥) → eqb tag 2 ≡ t → verdict tag n a ≡ verdict tag n b
      two true f h = is-note tag n a f (eqb-true tag 2 h) ∙ sym (is-note tag n b f (eqb-true tag 2 h))
      two false f h = three (eqb tag 3) f (eqb-false tag 2 h) refl

      one : (t : Bool) → eqb tag 1 ≡ t → verdict tag n a ≡ verdict tag n b
      one true h =
          let k = eqb-true tag 1 h in
          is_frame tag n a k ∙ sym (frame_long n a (long_frame k)) ∙ frame_long n b (long_frame k) ∙ sym (is_frame tag n b k)
      one false h = two (eqb tag 2) (eqb-false tag 1 h) refl
