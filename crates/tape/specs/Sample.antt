-- Where on the tape of a microphone a time lies (docs/RULES.md, "Where on the tape"). Numbers with a sign are the library's: pos n is
-- n, negsuc n is -(n + 1); suc_ℤ z is z + 1, nat_abs z is z without its sign.
use Rattle.std.specs.Prelude.{ℕ, ◌≡◌, Bool, ◌⊎◌, leb, Result, Ok, Err, ℤ, pos, neg_ℤ, nat_abs, ◌-ℤ◌, ◌*ℤ◌, ◌≤ℤ◌, ◌<ℤ◌}
use Rattle.std.proofs.Math.IntN.{suc_ℤ}
use Rattle.std.specs.Int.Signed.{shr_z}
use Rattle.codec.specs.Choice.{pick}
use Rattle.codec.specs.Time.{ns}
use Rattle.codec.specs.declared.time.Time.{Time}
use Rattle.tape.specs.declared.sample.TooFar.{TooFar}

-- a number divided, rounded towards minus infinity (shr_z takes a to a / n and -(a + 1) to -(a / n + 1)), and up
abbrev pub down_by : ℕ → ℤ → ℤ
down_by n z = shr_z z n

abbrev pub up_by : ℕ → ℤ → ℤ
up_by n z = neg_ℤ (down_by n (neg_ℤ z))

-- the nanoseconds from the start to the time, with their sign
abbrev pub apart_of : Time → Time → ℤ
apart_of start time = pos (ns time) -ℤ pos (ns start)

-- 48,000 samples a second are 6 in 125,000 ns: the sample under way d nanoseconds after the start
unfoldable pub sample_of : ℤ → ℤ
sample_of d = down_by 125000 (pos 6 *ℤ d)

-- what that means: 125,000 p ≤ 6 d < 125,000 (p + 1)
pub record Plays (p d : ℤ) : Type 0 where
  pub begun : (pos 125000 *ℤ p) ≤ℤ (pos 6 *ℤ d)
  pub goes_on : (pos 6 *ℤ d) <ℤ (pos 125000 *ℤ suc_ℤ p)

-- q is the sample p or the one after it
abbrev pub SameOrNext : ℤ → ℤ → Type 0
SameOrNext p q = (q ≡ p) ⊎ (q ≡ suc_ℤ p)

-- where sample n begins: the first whole nanosecond at or after n * 125,000 / 6
unfoldable pub begins_of : ℤ → ℤ
begins_of n = up_by 6 (pos 125000 *ℤ n)

-- at most 24 hours, either way
abbrev pub within_day : ℤ → Bool
within_day d = leb (nat_abs d) 86400000000000

-- 61 where it is more
abbrev pub number_of : TooFar → ℕ
number_of why = 61

unfoldable pub placed_of : ℤ → Result ℤ TooFar
placed_of d = pick (within_day d) (Ok (sample_of d)) (Err record {})

abbrev pub position_of : Time → Time → Result ℤ TooFar
position_of start time = placed_of (apart_of start time)
