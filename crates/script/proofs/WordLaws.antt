-- A number that was read keeps to its limit. Assumes nothing.
use Prim.Native.Nat.{ℕ, ◌≤◌}
use mathlib.Core.Path.{◌≡◌}
use mathlib.Core.Bool.{◌&&◌}
use mathlib.Core.List.{List}
use native.Mathlib.Omega.{arith}
use lib.ListN.{length, drop}
use lib.Dec.{leb, eqb}
use borrow.Author.Tests.{leb-true}
use Rattle.codec.proofs.BoolLaws.{and_r}
use Rattle.codec.proofs.Opened.{chosen, passed, never}
use Rattle.text.specs.Digit.{all_below}
use Rattle.text.specs.Number.{number_of, digits_of, rest_of, hexed, value}
use Rattle.std.specs.Prelude.{Some, None}

rest_most : (base most : ℕ) (cs : List ℕ) (n : ℕ) → rest_of base most 0 cs ≡ Some n → n ≤ most
unfolding rest_of
rest_most base most cs n e =
    chosen (all_below base cs && leb (value base 0 cs) most) (Some (value base 0 cs)) None e (λ z. never (cc))
    (λ t q.
    let k : value base 0 cs ≡ n = cc in
    let m : value base 0 cs ≤ most = leb-true (value base 0 cs) most (and_r (all_below base cs) (leb (value base 0 cs) most) t) in
    omega arith)

digits_most : (base most : ℕ) (cs : List ℕ) (n : ℕ) → digits_of base most cs ≡ Some n → n ≤ most
unfolding digits_of
digits_most base most cs n e = passed (eqb (length cs) 0) None (rest_of base most 0 cs) e (λ z. never (cc)) (λ t q. rest_most base most cs n q)

pub number-most : (w : List ℕ) (most n : ℕ) → number_of w most ≡ Some n → n ≤ most
unfolding number_of
number-most w most n e =
    passed (hexed w) (digits_of 16 most (drop 2 w)) (digits_of 10 most w) e (λ q. digits_most 16 most (drop 2 w) n q)
    (λ t q. digits_most 10 most w n q)
