-- Laws of the header, and of a time in it. Assumes nothing.
use Prim.Native.Nat.{ℕ, ◌+◌, ◌≤◌, ◌<◌, min}
use mathlib.Core.Path.{◌≡◌, refl, sym, ◌∙◌, ap}
use mathlib.Core.Bool.{true, Bool, false}
use mathlib.Core.List.{List, [], ◌∷◌}
use native.Mathlib.Omega.{arith}
use lib.ListN.{length}
use Rattle.std.specs.Prelude.{Option}
use Rattle.codec.specs.declared.header.Header.{Header}
use Rattle.codec.specs.Number.{be, Laid, Wrote, word_at}
use Rattle.codec.specs.Header.{header_bytes}
use Rattle.codec.proofs.NumberLaws.{chain_put, got_none, word_none}
use lib.Dec.{leb}
use borrow.Author.Tests.{leb-true, leb-false}

pub header_length : (h : Header) → length (header_bytes h) ≡ 14
unfolding header_bytes
header_length h = refl

-- the parts laid one after the other are the header
pub header_laid : {l l1 l2 l3 l4 : List ℕ} {at k : ℕ} {p q r : Option ℕ} (h : Header)
    → Laid l at (1 ∷ h.sequence ∷ []) l1 k → Wrote true l1 k (be 6 h.time.sec) l2 p
    → Wrote true l2 (k + 6) (be 4 h.time.nano) l3 q → Wrote true l3 (k + 6 + 4) (be 2 h.length) l4 r
    → at + 14 ≤ length l → Laid l at (header_bytes h) l4 (k + 6 + 4 + 2)
unfolding header_bytes
header_laid h a b d e f = chain_put (chain_put (chain_put a b (omega arith)) d (omega arith)) e (omega arith)

-- the index of the nanoseconds is cut at the largest: past any bytes, both indices find nothing
pub nano_cut : (s : List ℕ) (at : ℕ) → length s < 9223372036854775808 → word_at 4 s (min (at + 6) 18446744073709551615) ≡ word_at 4 s (at + 6)
nano_cut s at h = go (leb (at + 6) 18446744073709551615) refl
  where
    nothing : (i : ℕ) → length s < i + 4 → 0 ≡ word_at 4 s i
    nothing i h = (word_none 4 s i (got_none 4 s i h)).is

    go : (b : Bool) → leb (at + 6) 18446744073709551615 ≡ b → word_at 4 s (min (at + 6) 18446744073709551615) ≡ word_at 4 s (at + 6)
    go true e =
        let k = leb-true (at + 6) 18446744073709551615 e in
        let m : min (at + 6) 18446744073709551615 ≡ at + 6 = omega arith in
        ap (word_at 4 s) m
    go false e =
        let k = leb-false (at + 6) 18446744073709551615 e in
        let m : length s < min (at + 6) 18446744073709551615 + 4 = omega arith in
        let n : length s < at + 6 + 4 = omega arith in
        sym (nothing (min (at + 6) 18446744073709551615) m) ∙ nothing (at + 6) n
