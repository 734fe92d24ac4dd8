-- What a measure and a deadline say, and what a recovered time does. Assumes nothing.
use Prim.Native.Nat.{ℕ, ◌+◌, ◌-◌, ◌*◌, ◌/◌, ◌≤◌, ◌<◌, min}
use mathlib.Core.Path.{◌≡◌, refl, sym, ◌∙◌, ap}
use mathlib.Core.Bool.{Bool, true, false, ◌&&◌}
use native.Mathlib.Omega.{arith}
use lib.Dec.{ltb, leb}
use Rattle.codec.proofs.Opened.{never}
use borrow.Author.Tests.{lt-ltb, le-ltb, le-leb, lt-leb, ltb-true, ltb-false, leb-true, leb-false}
use Rattle.codec.specs.Choice.{pick}
use Rattle.codec.specs.declared.time.Time.{Time}
use Rattle.codec.specs.declared.time.Ticks.{Ticks}
use Rattle.codec.specs.declared.time.Nanos.{Nanos}
use Rattle.codec.specs.declared.time.Elapsed.{Elapsed}
use Rattle.codec.specs.Time.{ns, millis_of, ticks_of, behind_by, elapsed, overdue_of, recovered_of}

pub too_far : (n : ℕ) → 18446744073709551615 < n → Elapsed.TooFar ≡ ticks_of n
unfolding ticks_of
too_far n h = simp (lt-leb (n / 10000) 65535 (omega arith))

-- the nanoseconds from one reading to another; from a hundred seconds on they are only far, and no rule asks how far
pub data Span : Type 0 where
  nanos : ℕ → Span
  far : Span
  backwards : ℕ → Span

unfoldable pub span_of : ℕ → ℕ → Span
span_of f t = pick (ltb t f) (backwards (behind_by f t)) (pick (ltb (t - f) 100000000000) (nanos (t - f)) far)

-- only the difference counts
pub shift : (x y f t : ℕ) → f + y ≡ t + x → span_of x y ≡ span_of f t
unfolding span_of
shift x y f t h = go (ltb y x) refl
  where
    go : (b : Bool) → ltb y x ≡ b → span_of x y ≡ span_of f t
    go true e =
        let k : y < x = ltb-true y x e in
        let d : f - t ≡ x - y = omega arith in
        simp (e, lt-ltb t f (omega arith), d)
    go false e =
        let k : x ≤ y = ltb-false y x e in
        let d : t - f ≡ y - x = omega arith in
        simp (e, le-ltb t f (omega arith), d)

-- what a span says of the measure and of the deadline
abbrev pub measured : Span → Elapsed
measured (nanos n) = ticks_of n
measured far = Elapsed.TooFar
measured (backwards n) = Elapsed.Backwards (record { 0 = n })

abbrev pub due : ℕ → Span → Bool
due d (nanos n) = leb 1 d && leb d (millis_of n)
due d far = leb 1 d
due d (backwards n) = false

pub by_span : (f t : ℕ) (p : Span) → span_of f t ≡ p → measured p ≡ elapsed f t
unfolding span_of elapsed ticks_of
by_span f t p q = go (ltb t f) refl (ltb (t - f) 100000000000) refl
  where
    go : (b : Bool) → ltb t f ≡ b → (d : Bool) → ltb (t - f) 100000000000 ≡ d → measured p ≡ elapsed f t
    go true e d g = rw (← q) (simp e)
    go false e true g = rw (← q) (simp (e, g))
    go false e false g =
        let k : 100000000000 ≤ t - f = ltb-false (t - f) 100000000000 g in
        rw (← q) (simp (e, g, lt-leb ((t - f) / 10000) 65535 (omega arith)))

pub by_deadline : (f t d : ℕ) → d ≤ 65535 → (p : Span) → span_of f t ≡ p → due d p ≡ overdue_of f t d
unfolding span_of overdue_of
by_deadline f t d m p q = go (leb 1 d) refl (ltb t f) refl (ltb (t - f) 100000000000) refl
  where
    same : (a b x y : ℕ) → (a ≤ b → x ≤ y) → (x ≤ y → a ≤ b) → leb a b ≡ leb x y
    same a b x y u v = two (leb a b) refl
      where
        two : (w : Bool) → leb a b ≡ w → leb a b ≡ leb x y
        two true e = e ∙ sym (le-leb x y (u (leb-true a b e)))
        two false e = other (leb x y) refl
          where
            other : (z : Bool) → leb x y ≡ z → leb a b ≡ leb x y
            other true h =
                let k : a ≤ b = v (leb-true x y h) in
                let l : b < a = leb-false a b e in
                let z : ⊥ = omega arith in absurd z
            other false h = e ∙ sym h

    go : (o : Bool) → leb 1 d ≡ o → (b : Bool) → ltb t f ≡ b → (w : Bool) → ltb (t - f) 100000000000 ≡ w → due d p ≡ overdue_of f t d
    go false o true e w g = rw (← q) (simp (o, e))
    go false o false e true g = rw (← q) (simp (o, e, g))
    go false o false e false g = rw (← q) (simp (o, e, g))
    go true o true e w g =
        let h : 1 ≤ d = leb-true 1 d o in
        let k : t < f = ltb-true t f e in
        rw (← q) (simp (o, e, lt-leb (f + d * 1000000) t (omega arith)))
    go true o false e true g =
        let k : f ≤ t = ltb-false t f e in
        let x : leb d (min ((t - f) / 1000000) 65535) ≡ leb (f + d * 1000000) t
        = same d (min ((t - f) / 1000000) 65535) (f + d * 1000000) t (λ u. omega arith) (λ u. omega arith) in
        rw (← q) (simp (o, e, g, x))
    go true o false e false g =
        let k : 100000000000 ≤ t - f = ltb-false (t - f) 100000000000 g in
        rw (← q) (simp (o, e, g, le-leb (f + d * 1000000) t (omega arith)))

-- ticks say where the later time lies
pub within : (f t k : ℕ) → elapsed f t ≡ Elapsed.Ticks (record { 0 = k }) → (f + k * 10000 ≤ t) × (t < f + k * 10000 + 10000)
unfolding elapsed ticks_of
within f t k h = go (ltb t f) refl (leb ((t - f) / 10000) 65535) refl
  where
    go : (b : Bool) → ltb t f ≡ b → (d : Bool) → leb ((t - f) / 10000) 65535 ≡ d → (f + k * 10000 ≤ t) × (t < f + k * 10000 + 10000)
    go true e d g = never (cc)
    go false e true g =
        let q : ◌≡◌ {A = Ticks} (record { 0 = (t - f) / 10000 }) (record { 0 = k }) = cc in
        let z : (t - f) / 10000 ≡ k = ap (λ (x : Ticks). x.0) q in
        let o : f ≤ t = ltb-false t f e in
        omega arith
    go false e false g = never (cc)

-- backwards says how far, from 1 on; below the cut that number leads from the reading back to the header time
pub backwards_by : (f t n : ℕ) → elapsed f t ≡ Elapsed.Backwards (record { 0 = n }) → (n ≡ behind_by f t) × ((t < f) × ((1 ≤ n) × (n < 4294967295 → t + n ≡ f)))
unfolding elapsed ticks_of
backwards_by f t n h = go (ltb t f) refl (leb ((t - f) / 10000) 65535) refl
  where
    go : (b : Bool) → ltb t f ≡ b → (d : Bool) → leb ((t - f) / 10000) 65535 ≡ d → (n ≡ behind_by f t) × ((t < f) × ((1 ≤ n) × (n < 4294967295 → t + n ≡ f)))
    go true e d g =
        let q : ◌≡◌ {A = Nanos} (record { 0 = behind_by f t }) (record { 0 = n }) = cc in
        let z : behind_by f t ≡ n = ap (λ (x : Nanos). x.0) q in
        let o : t < f = ltb-true t f e in
        (sym z, (o, (omega arith, λ u. omega arith)))
    go false e true g = never (cc)
    go false e false g = never (cc)

-- the recovered time of an offset is the header time and that many ticks
pub recovered_exact : (h : Time) (k : ℕ) → h.sec ≤ 281474976710655 → h.nano ≤ 999999999 → k ≤ 65535 → ns (recovered_of h k) ≡ ns h + k * 10000
unfolding recovered_of
recovered_exact h k s n m = omega arith

-- so it is never after the measured time and less than 10,000 ns before it, across a second's edge too
pub recovered_within : (h t : Time) (k : ℕ) → h.sec ≤ 281474976710655 → h.nano ≤ 999999999 → k ≤ 65535 → elapsed (ns h) (ns t) ≡ Elapsed.Ticks (record { 0 = k })
    → (ns (recovered_of h k) ≤ ns t) × (ns t < ns (recovered_of h k) + 10000)
recovered_within h t k s n m e = rw (recovered_exact h k s n m) (within (ns h) (ns t) k e)
