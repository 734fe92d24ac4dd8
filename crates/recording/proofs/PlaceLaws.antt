-- Laws of one call on a piece. Assumes nothing.
use Prim.Native.Nat.{ℕ, ◌+◌, ◌-◌, ◌≤◌, ◌<◌, min}
use mathlib.Core.Path.{◌≡◌, refl, sym, ◌∙◌}
use mathlib.Core.Bool.{Bool, true, false}
use mathlib.Core.List.{List}
use native.Mathlib.Omega.{arith}
use lib.ListN.{length, take, drop, get_or}
use lib.Dec.{ltb, leb}
use borrow.Author.Tests.{lt-ltb, le-ltb, eq-eqb, ne_eqb, ltb-true, leb-true, leb-false}
use Rattle.std.specs.Prelude.{Option, Ok, Err}
use Rattle.std.proofs.lemmas.List.{get_or_default}
use Rattle.codec.specs.Choice.{pick}
use Rattle.codec.specs.Number.{Wrote}
use Rattle.recording.specs.declared.error.RecordError.{RecordError}
use Rattle.recording.specs.declared.pieces.Place.{Place}
use Rattle.recording.specs.declared.pieces.Step.{Step}
use Rattle.recording.specs.File.{keeps}
use Rattle.recording.specs.Pieces.{fresh, length_of, size_of, sound_of, head_byte, headed_of, place_of, next_of, used_of, part_of, buffer_of, found_of, done_of, more_of, ends_of, finish_of}

pub sound_same : (p : Place) → p.past < size_of p → sound_of p ≡ p
unfolding sound_of
sound_same p h = simp (lt-ltb p.past (size_of p) h)

pub sound_fresh : (p : Place) → size_of p ≤ p.past → sound_of p ≡ fresh p.skipped
unfolding sound_of
sound_fresh p h = simp (le-ltb p.past (size_of p) h)

pub head_old : (k past old : ℕ) (piece : List ℕ) → k < past → head_byte k past old piece ≡ old
unfolding head_byte
head_old k past old piece h = simp (lt-ltb k past h)

pub head_new : (k past old : ℕ) (piece : List ℕ) → past ≤ k → head_byte k past old piece ≡ get_or piece (k - past) old
unfolding head_byte
head_new k past old piece h = simp (le-ltb k past h)

-- the byte at k, as the code finds it
module _ (k past old : ℕ) (piece : List ℕ) (h : past ≤ k) where
  pub head_got : k - past < length piece → get_or piece (k - past) 0 ≡ head_byte k past old piece
  head_got g = get_or_default piece (k - past) 0 old g ∙ sym (head_new k past old piece h)

-- how many bytes are used: none of a field that is over, all that there are, or the rest of the field
module _ (p : Place) (n : ℕ) where
  pub used_all : n ≤ size_of p - p.past → n ≡ used_of p n
  unfolding used_of
  used_all h = omega arith

  pub used_rest : size_of p - p.past ≤ n → size_of p - p.past ≡ used_of p n
  unfolding used_of
  used_rest h = omega arith

  pub used_most : used_of p n ≤ n
  unfolding used_of
  used_most = omega arith

  -- the field goes on, or ends
  pub ends_more : (buffer : List ℕ) → p.past + n < size_of p → ends_of p n buffer ≡ more_of p n
  unfolding ends_of
  ends_more buffer h = simp (lt-ltb (p.past + n) (size_of p) h)

  pub ends_done : (buffer : List ℕ) → size_of p ≤ p.past + n → ends_of p n buffer ≡ done_of p n (found_of p buffer)
  unfolding ends_of
  ends_done buffer h = simp (le-ltb (p.past + n) (size_of p) h)

-- the part of a piece that is of the body, where k is the index of its first byte, or the end where there is none
pub part_is : (p : Place) (piece : List ℕ) {n k : ℕ} → n ≡ used_of p (length piece) → k ≡ min (3 - p.past) n → take (n - k) (drop k piece) ≡ part_of p piece
unfolding part_of
part_is p piece {n} {k} e f = go (leb n (3 - p.past)) refl
  where
    go : (b : Bool) → leb n (3 - p.past) ≡ b → take (n - k) (drop k piece) ≡ take (used_of p (length piece) - (3 - p.past)) (drop (3 - p.past) piece)
    go true h =
        let l = leb-true n (3 - p.past) h in
        let x : n - k ≡ 0 = omega arith in
        let y : n - (3 - p.past) ≡ 0 = omega arith in
        rw (← e, x, y)
    go false h =
        let l = leb-false n (3 - p.past) h in
        let x : k ≡ 3 - p.past = omega arith in
        rw (← e, x)

-- what is kept
pub not_kept : (p : Place) (buffer piece : List ℕ) → keeps p.tag (length_of p) ≡ false → buffer_of p buffer piece ≡ buffer
unfolding buffer_of
not_kept p buffer piece e = simp e

pub kept_by_lem : {l' : List ℕ} {r : Option ℕ} (p : Place) (buffer piece : List ℕ) → keeps p.tag (length_of p) ≡ true
    → Wrote true buffer (p.past - 3) (part_of p piece) l' r → l' ≡ buffer_of p buffer piece
unfolding buffer_of
kept_by_lem p buffer piece e w = w.list ∙ simp e

-- the answer at the end
pub finish_none : (p : Place) → (sound_of p).past ≡ 0 → Ok tt ≡ finish_of p
unfolding finish_of
finish_none p h = simp (eq-eqb (sound_of p).past 0 h)

pub finish_inside : (p : Place) → ((sound_of p).past ≡ 0 → ⊥) → Err RecordError.Cut ≡ finish_of p
unfolding finish_of
finish_inside p h = simp (ne_eqb (sound_of p).past 0 h)

-- Of any place, whoever made it.
either_used : (b : Bool) (x y : Step) {n : ℕ} → x.used ≡ n → y.used ≡ n → (pick b x y).used ≡ n
either_used true x y e f = e
either_used false x y e f = f

pub used_is : (p : Place) (buffer piece : List ℕ) → (next_of p buffer piece).used ≡ used_of (place_of p piece) (length piece)
unfolding next_of ends_of
used_is p buffer piece = either_used (ltb ((place_of p piece).past + used_of (place_of p piece) (length piece)) (size_of (place_of p piece))) _ _ refl refl

sound_short : (p : Place) → (sound_of p).past < size_of (sound_of p)
unfolding sound_of
sound_short p = go (ltb p.past (size_of p)) refl
  where
    go : (b : Bool) → ltb p.past (size_of p) ≡ b → (pick b p (fresh p.skipped)).past < size_of (pick b p (fresh p.skipped))
    go true e = ltb-true p.past (size_of p) e
    go false e = omega arith

pub place_short : (p : Place) (piece : List ℕ) → (place_of p piece).past < size_of (place_of p piece)
unfolding place_of headed_of
place_short p piece = go (leb 3 (sound_of p).past) refl
  where
    go : (b : Bool) → leb 3 (sound_of p).past ≡ b → (place_of p piece).past < size_of (place_of p piece)
    go false e = let h = leb-false 3 (sound_of p).past e in omega arith
    go true e =
        let h = leb-true 3 (sound_of p).past e in
        let k = sound_short p in
        let a = head_old 1 (sound_of p).past (sound_of p).high piece (omega arith) in
        let b = head_old 2 (sound_of p).past (sound_of p).low piece (omega arith) in
        omega arith

-- a call uses no more than the piece, and some of a piece that is not empty
pub uses_most : (p : Place) (buffer piece : List ℕ) → (next_of p buffer piece).used ≤ length piece
uses_most p buffer piece = rw (used_is p buffer piece) (used_most (place_of p piece) (length piece))

pub uses_some : (p : Place) (buffer piece : List ℕ) → 1 ≤ length piece → 1 ≤ (next_of p buffer piece).used
unfolding used_of
uses_some p buffer piece h = let k = place_short p piece in rw (used_is p buffer piece) (omega arith)

-- the same as a caller has it
pub step_most : {r : Step} (p : Place) (buffer piece : List ℕ) → r ≡ next_of p buffer piece → r.used ≤ length piece
step_most p buffer piece e = rw e (uses_most p buffer piece)

pub step_some : {r : Step} (p : Place) (buffer piece : List ℕ) → r ≡ next_of p buffer piece → 1 ≤ length piece → 1 ≤ r.used
step_some p buffer piece e h = rw e (uses_some p buffer piece h)
