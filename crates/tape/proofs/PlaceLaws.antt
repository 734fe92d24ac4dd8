-- Two times, and what lies between them. Assumes nothing.
use Prim.Native.Nat.{ℕ, zero, suc, ◌+◌, ◌-◌, ◌*◌, ◌/◌, ◌≤◌, ◌<◌}
use mathlib.Core.Path.{◌≡◌, refl, sym, ◌∙◌, ap}
use mathlib.Core.Bool.{Bool, true, false}
use mathlib.Core.Logic.{◌⊎◌, inl, inr}
use native.Mathlib.Omega.{arith}
use lib.Dec.{leb, ltb}
use lib.IntN.{ℤ, pos, negsuc, nat_abs, ◌-ℤ◌}
use borrow.Author.Tests.{lt-ltb, le-ltb, le-leb, lt-leb, ltb-true, ltb-false, leb-true, leb-false}
use Rattle.std.specs.Prelude.{Result, Ok, Err}
use Rattle.codec.specs.Time.{ns}
use Rattle.codec.specs.declared.time.Time.{Time}
use Rattle.codec.proofs.Opened.{never}
use Rattle.tape.specs.Sample.{apart_of, sample_of, Plays, SameOrNext, begins_of, within_day, placed_of, position_of}
use Rattle.tape.specs.declared.sample.TooFar.{TooFar}
use Rattle.tape.proofs.SampleLaws.{sample_after, sample_before, plays, the_one, begins}

-- a difference, at each sign
pub apart_after : (s t : ℕ) → s ≤ t → pos t -ℤ pos s ≡ pos (t - s)
apart_after zero t h = let e : t + zero ≡ t - zero = omega arith in ap pos e
apart_after (suc m) t h = simp (le-ltb t (suc m) h)

pub apart_before : (s t : ℕ) → t < s → pos t -ℤ pos s ≡ negsuc (s - suc t)
apart_before zero t h = never (omega arith)
apart_before (suc m) t h = simp (lt-ltb t (suc m) h)

-- only the difference counts
pub shift : (x y s t : ℕ) → s + y ≡ t + x → pos y -ℤ pos x ≡ pos t -ℤ pos s
shift x y s t h = go (ltb y x) refl
  where
    go : (b : Bool) → ltb y x ≡ b → pos y -ℤ pos x ≡ pos t -ℤ pos s
    go true e =
        let k : y < x = ltb-true y x e in
        let d : x - suc y ≡ s - suc t = omega arith in
        rw (apart_before x y k, apart_before s t (omega arith)) (ap negsuc d)
    go false e =
        let k : x ≤ y = ltb-false y x e in
        let d : y - x ≡ t - s = omega arith in
        rw (apart_after x y k, apart_after s t (omega arith)) (ap pos d)

-- so both may be counted from the earlier of their seconds
pub from_start : (start time : Time) → start.sec ≤ time.sec
    → placed_of (pos ((time.sec - start.sec) * 1000000000 + time.nano) -ℤ pos start.nano) ≡ position_of start time
from_start start time h = ap placed_of (shift start.nano ((time.sec - start.sec) * 1000000000 + time.nano) (ns start) (ns time) (omega arith))

pub from_time : (start time : Time) → time.sec ≤ start.sec
    → placed_of (pos time.nano -ℤ pos ((start.sec - time.sec) * 1000000000 + start.nano)) ≡ position_of start time
from_time start time h = ap placed_of (shift ((start.sec - time.sec) * 1000000000 + start.nano) time.nano (ns start) (ns time) (omega arith))

-- what is answered: the sample within 24 hours, and else 61
pub near : (d : ℤ) → nat_abs d ≤ 86400000000000 → placed_of d ≡ Ok (sample_of d)
unfolding placed_of
near d h = rw (le-leb (nat_abs d) 86400000000000 h)

pub far : (d : ℤ) → 86400000000000 < nat_abs d → placed_of d ≡ Err record {}
unfolding placed_of
far d h = rw (lt-leb (nat_abs d) 86400000000000 h)

-- and nothing else: what is told is the one sample that plays
abbrev number : Result ℤ TooFar → ℤ
number (Ok p) = p
number (Err why) = pos 61

module _ (start time : Time) where
  pub tells : (p : ℤ) → position_of start time ≡ Ok p → (p ≡ sample_of (apart_of start time)) × (nat_abs (apart_of start time) ≤ 86400000000000)
  tells p h = go (within_day (apart_of start time)) refl
    where
      go : (b : Bool) → within_day (apart_of start time) ≡ b → (p ≡ sample_of (apart_of start time)) × (nat_abs (apart_of start time) ≤ 86400000000000)
      go true e =
          let k = leb-true (nat_abs (apart_of start time)) 86400000000000 e in
          (ap number (sym h ∙ near (apart_of start time) k), k)
      go false e = never (cc (h, far (apart_of start time) (leb-false (nat_abs (apart_of start time)) 86400000000000 e)))

  pub playing : (p : ℤ) → position_of start time ≡ Ok p → Plays p (apart_of start time)
  playing p h = rw (tells p h).0 (plays (apart_of start time))

  pub answers : (p : ℤ) → Plays p (apart_of start time) → nat_abs (apart_of start time) ≤ 86400000000000 → position_of start time ≡ Ok p
  answers p h k = near (apart_of start time) k ∙ ap Ok (sym (the_one p (apart_of start time) h))

-- a time at which a sample begins
pub own_time : (start time : Time) (n : ℤ) → apart_of start time ≡ begins_of n → nat_abs (begins_of n) ≤ 86400000000000 → position_of start time ≡ Ok n
own_time start time n e h = rw e (near (begins_of n) h ∙ ap Ok (begins n))

-- a number and the same or the next
same_or_suc : (p q : ℕ) → p ≤ q → q ≤ suc p → (q ≡ p) ⊎ (q ≡ suc p)
same_or_suc p q h k = go (leb q p) refl
  where
    go : (b : Bool) → leb q p ≡ b → (q ≡ p) ⊎ (q ≡ suc p)
    go true e = let l : q ≤ p = leb-true q p e in inl (omega arith)
    go false e = let l : p < q = leb-false q p e in inr (omega arith)

both_after : (p q : ℕ) → (q ≡ p) ⊎ (q ≡ suc p) → SameOrNext (pos p) (pos q)
both_after p q (inl e) = inl (ap pos e)
both_after p q (inr e) = inr (ap pos e)

both_before : (p q : ℕ) → (p ≡ q) ⊎ (p ≡ suc q) → SameOrNext (negsuc p) (negsuc q)
both_before p q (inl e) = inl (ap negsuc (sym e))
both_before p q (inr e) = inr (rw e refl)

-- less than a sample later, a time lies on the same sample or on the next: a sample takes 20,833 1/3 ns
pub soon : (s t r : ℕ) → t ≤ r → r ≤ t + 20833 → SameOrNext (sample_of (pos t -ℤ pos s)) (sample_of (pos r -ℤ pos s))
soon s t r h k = go (ltb t s) refl (ltb r s) refl
  where
    go : (b : Bool) → ltb t s ≡ b → (d : Bool) → ltb r s ≡ d → SameOrNext (sample_of (pos t -ℤ pos s)) (sample_of (pos r -ℤ pos s))
    go false e d g =
        let l : s ≤ t = ltb-false t s e in
        let w = same_or_suc (6 * (t - s) / 125000) (6 * (r - s) / 125000) (omega arith) (omega arith) in
        rw (apart_after s t l, apart_after s r (omega arith), sample_after (t - s), sample_after (r - s)) (both_after (6 * (t - s) / 125000) (6 * (r - s) / 125000) w)
    go true e false g =
        let l : t < s = ltb-true t s e in
        let m : s ≤ r = ltb-false r s g in
        let x : (6 * (s - suc t) + 5) / 125000 ≡ 0 = omega arith in
        let y : 6 * (r - s) / 125000 ≡ 0 = omega arith in
        rw (apart_before s t l, apart_after s r m, sample_before (s - suc t), sample_after (r - s), x, y) (inr refl)
    go true e true g =
        let l : t < s = ltb-true t s e in
        let m : r < s = ltb-true r s g in
        let w = same_or_suc ((6 * (s - suc r) + 5) / 125000) ((6 * (s - suc t) + 5) / 125000) (omega arith) (omega arith) in
        rw (apart_before s t l, apart_before s r m, sample_before (s - suc t), sample_before (s - suc r)) (both_before ((6 * (s - suc t) + 5) / 125000) ((6 * (s - suc r) + 5) / 125000) w)
