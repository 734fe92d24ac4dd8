-- Masks of a state byte as arithmetic.
use Prim.Native.Nat.{ℕ, ◌+◌, ◌*◌, ◌/◌, ◌%◌, ◌^◌, ◌<◌}
use mathlib.Core.Path.{◌≡◌, ◌∙◌}
use native.Mathlib.Omega.{arith}
use lib.Bits.{bit_and, bit_or, and_step, and_mask, and_high, and_shifted, or_disjoint, or_shifted, or_shifted_r}

-- what a report's mask keeps: all but the four low bits, all but the lowest, all but bits 3 to 1, everything
pub keep_high : (n : ℕ) → n < 256 → bit_and n 240 ≡ n / 16 * 16
keep_high n h = and_high n 4 4 ∙ omega arith

pub keep_upper : (n : ℕ) → n < 256 → bit_and n 254 ≡ n / 2 * 2
keep_upper n h = and_high n 7 1 ∙ omega arith

pub keep_outer : (n : ℕ) → n < 256 → bit_and n 241 ≡ n / 16 * 16 + n % 2
keep_outer n h = and_step n 241 ∙ rw (and_high (n / 2) 4 3) (omega arith)

pub keep_all : (n : ℕ) → n < 256 → bit_and n 255 ≡ n
keep_all n h = and_mask n 8 ∙ omega arith

-- bits written where they are clear
pub raise_errors : (n bits : ℕ) → bits < 16 → bit_or (n / 16 * 16) bits ≡ n / 16 * 16 + bits
raise_errors n bits h = or_shifted (n / 16) 4 bits (omega arith)

pub raise_conflict : (n : ℕ) → bit_or (n / 2 * 2) 1 ≡ n / 2 * 2 + 1
raise_conflict n = or_shifted (n / 2) 1 1 (omega arith)

pub raise_aggregated : (n bits : ℕ) → bits < 16 → bits % 2 ≡ 0 → bit_or (n / 16 * 16 + n % 2) bits ≡ n / 16 * 16 + n % 2 + bits
raise_aggregated n bits h e =
    let x : ℕ = n / 16 * 16 + n % 2 in
    let half : x / 2 ≡ n / 16 * 2 ^ 3 = omega arith in
    or_disjoint x bits (and_step x bits ∙ rw (half, and_shifted (n / 16) 3 (bits / 2) (omega arith), e) (omega arith))

-- bit 7, which says that there was a loss
pub raise_lost : (n : ℕ) → n < 128 → bit_or n 128 ≡ n + 128
raise_lost n h = or_shifted_r 1 7 n h ∙ omega arith
