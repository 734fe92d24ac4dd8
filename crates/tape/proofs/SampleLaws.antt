-- What the number of a sample says of the time. Assumes nothing.
use Prim.Native.Nat.{ℕ, zero, suc, ◌+◌, ◌-◌, ◌*◌, ◌/◌, ◌≤◌, ◌<◌}
use mathlib.Core.Path.{◌≡◌, refl, ◌∙◌, ap}
use native.Mathlib.Omega.{arith}
use lib.Dec.{leb→le, le→leb, ltb→lt, lt→ltb}
use lib.IntN.{ℤ, pos, negsuc, suc_ℤ, pred_ℤ, neg_ℤ, ◌*ℤ◌}
use Rattle.std.specs.Int.{int_div_euclid}
use lib.Signed.{shr_z, ◌≤ℤ◌, ◌<ℤ◌}
use Rattle.codec.proofs.Opened.{never}
use Rattle.tape.specs.Sample.{sample_of, begins_of, Plays}

-- a product with a negative number
neg_times : (n a m : ℕ) → n * suc a ≡ suc m → pos n *ℤ negsuc a ≡ negsuc m
neg_times n a m h = ap (λ (x : ℕ). neg_ℤ (pos x)) h

by_six : (a : ℕ) → pos 6 *ℤ negsuc a ≡ negsuc (6 * a + 5)
by_six a = neg_times 6 a (6 * a + 5) (omega arith)

by_samples : (q : ℕ) → pos 125000 *ℤ negsuc q ≡ negsuc (125000 * q + 124999)
by_samples q = neg_times 125000 q (125000 * q + 124999) (omega arith)

-- the sample, at each sign
pub sample_after : (a : ℕ) → sample_of (pos a) ≡ pos (6 * a / 125000)
unfolding sample_of
sample_after a = refl

pub sample_before : (a : ℕ) → sample_of (negsuc a) ≡ negsuc ((6 * a + 5) / 125000)
unfolding sample_of
sample_before a = ap (λ (z : ℤ). shr_z z 125000) (by_six a)

-- the same, as the code computes it
pub by_euclid : (d z : ℤ) → z ≡ d *ℤ pos 6 → int_div_euclid z (pos 125000) ≡ sample_of d
unfolding sample_of
by_euclid (pos a) z e = rw e (let k : a * 6 ≡ 6 * a = omega arith in ap (λ (n : ℕ). pos (n / 125000)) k)
by_euclid (negsuc a) z e =
    let h : suc a * 6 ≡ suc (6 * a + 5) = omega arith in
    let f : z ≡ negsuc (6 * a + 5) = e ∙ ap (λ (x : ℕ). neg_ℤ (pos x)) h in
    rw (f, by_six a) refl

-- the orders of two numbers of one sign, from those of their sizes
le_after : {a b : ℕ} → a ≤ b → pos a ≤ℤ pos b
le_after {a} {b} h = record { le = le→leb a b h }

le_before : {a b : ℕ} → b ≤ a → negsuc a ≤ℤ negsuc b
le_before {a} {b} h = record { le = le→leb b a h }

lt_after : {a b : ℕ} → a < b → pos a <ℤ pos b
lt_after {a} {b} h = record { lt = lt→ltb a b h }

lt_before : {a b : ℕ} → b < a → negsuc a <ℤ negsuc b
lt_before {a} {b} h = record { lt = lt→ltb b a h }

plays_after : (q a : ℕ) → 125000 * q ≤ 6 * a → 6 * a < 125000 * suc q → Plays (pos q) (pos a)
plays_after q a h k = record { begun = le_after h; goes_on = lt_after k }

plays_before : (q a : ℕ) → 125000 * q ≤ 6 * a + 5 → 6 * a + 5 < 125000 * suc q → Plays (negsuc q) (negsuc a)
plays_before q a h k = record { begun = rw (by_six a, by_samples q) (le_before (omega arith)); goes_on = rw (by_six a) (next q h) }
  where
    next : (q : ℕ) → 125000 * q ≤ 6 * a + 5 → negsuc (6 * a + 5) <ℤ (pos 125000 *ℤ suc_ℤ (negsuc q))
    next zero h = record { lt = tt }
    next (suc m) h = rw (by_samples m) (lt_before (omega arith))

-- the sample is one that plays
pub plays : (d : ℤ) → Plays (sample_of d) d
plays (pos a) = rw (sample_after a) (plays_after (6 * a / 125000) a (omega arith) (omega arith))
plays (negsuc a) = rw (sample_before a) (plays_before ((6 * a + 5) / 125000) a (omega arith) (omega arith))

-- and no other one does
pub the_one : (p d : ℤ) → Plays p d → p ≡ sample_of d
the_one (pos q) (pos a) h =
    let l = leb→le (125000 * q) (6 * a) h.begun.le in
    let r = ltb→lt (6 * a) (125000 * suc q) h.goes_on.lt in
    let e : q ≡ 6 * a / 125000 = omega arith in
    rw (sample_after a) (ap pos e)
the_one (pos q) (negsuc a) h = let l : pos (125000 * q) ≤ℤ negsuc (6 * a + 5) = rw (← by_six a) h.begun in absurd l.le
the_one (negsuc q) d h = below q d h.begun h.goes_on
  where
    below : (q : ℕ) (d : ℤ) → (pos 125000 *ℤ negsuc q) ≤ℤ (pos 6 *ℤ d) → (pos 6 *ℤ d) <ℤ (pos 125000 *ℤ suc_ℤ (negsuc q)) → negsuc q ≡ sample_of d
    below zero (pos a) h k = let l = ltb→lt (6 * a) (125000 * zero) k.lt in never (omega arith)
    below (suc m) (pos a) h k =
        let l : pos (6 * a) <ℤ negsuc (125000 * m + 124999) = rw (← by_samples m) k in absurd l.lt
    below zero (negsuc a) h k =
        let l : negsuc (125000 * zero + 124999) ≤ℤ negsuc (6 * a + 5) = rw (← by_samples zero, ← by_six a) h in
        let n = leb→le (6 * a + 5) (125000 * zero + 124999) l.le in
        let e : zero ≡ (6 * a + 5) / 125000 = omega arith in
        rw (sample_before a) (ap negsuc e)
    below (suc m) (negsuc a) h k =
        let l : negsuc (125000 * suc m + 124999) ≤ℤ negsuc (6 * a + 5) = rw (← by_samples (suc m), ← by_six a) h in
        let r : negsuc (6 * a + 5) <ℤ negsuc (125000 * m + 124999) = rw (← by_samples m, ← by_six a) k in
        let n = leb→le (6 * a + 5) (125000 * suc m + 124999) l.le in
        let o = ltb→lt (125000 * m + 124999) (6 * a + 5) r.lt in
        let e : suc m ≡ (6 * a + 5) / 125000 = omega arith in
        rw (sample_before a) (ap negsuc e)

-- later times have no earlier sample
pub monotone : (d e : ℤ) → d ≤ℤ e → sample_of d ≤ℤ sample_of e
monotone (pos a) (pos b) h =
    let l = leb→le a b h.le in
    rw (sample_after a, sample_after b) (le_after (omega arith))
monotone (pos a) (negsuc b) h = absurd h.le
monotone (negsuc a) (pos b) h = rw (sample_before a, sample_after b) (record { le = tt })
monotone (negsuc a) (negsuc b) h =
    let l = leb→le b a h.le in
    rw (sample_before a, sample_before b) (le_before (omega arith))

-- a sample's own time lies on it
begins_after : (a : ℕ) → begins_of (pos (suc a)) ≡ pos (suc ((125000 * a + 124999) / 6))
unfolding begins_of
begins_after a =
    let e : 125000 * suc a ≡ suc (125000 * a + 124999) = omega arith in
    ap (λ (x : ℕ). neg_ℤ (shr_z (neg_ℤ (pos x)) 6)) e

begins_before : (a : ℕ) → begins_of (negsuc a) ≡ negsuc ((125000 * a + 125000) / 6 - 1)
unfolding begins_of
begins_before a =
    let e : suc (125000 * a + 124999) / 6 ≡ suc ((125000 * a + 125000) / 6 - 1) = omega arith in
    ap (λ (z : ℤ). neg_ℤ (shr_z (neg_ℤ z) 6)) (by_samples a) ∙ ap (λ (x : ℕ). neg_ℤ (pos x)) e

begins_zero : begins_of (pos zero) ≡ pos zero
unfolding begins_of
begins_zero = refl

pub begins : (n : ℤ) → sample_of (begins_of n) ≡ n
begins (pos zero) = rw begins_zero (sample_after zero)
begins (pos (suc a)) =
    let e : 6 * suc ((125000 * a + 124999) / 6) / 125000 ≡ suc a = omega arith in
    rw (begins_after a, sample_after (suc ((125000 * a + 124999) / 6))) (ap pos e)
begins (negsuc a) =
    let e : (6 * ((125000 * a + 125000) / 6 - 1) + 5) / 125000 ≡ a = omega arith in
    rw (begins_before a, sample_before ((125000 * a + 125000) / 6 - 1)) (ap negsuc e)

-- and a nanosecond earlier lies on the one before
pub begins_there : (n : ℤ) → sample_of (pred_ℤ (begins_of n)) ≡ pred_ℤ n
begins_there (pos zero) = rw begins_zero (sample_before zero)
begins_there (pos (suc a)) =
    let e : 6 * ((125000 * a + 124999) / 6) / 125000 ≡ a = omega arith in
    rw (begins_after a, sample_after ((125000 * a + 124999) / 6)) (ap pos e)
begins_there (negsuc a) =
    let e : (6 * suc ((125000 * a + 125000) / 6 - 1) + 5) / 125000 ≡ suc a = omega arith in
    rw (begins_before a, sample_before (suc ((125000 * a + 125000) / 6 - 1))) (ap negsuc e)
