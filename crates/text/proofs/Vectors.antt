-- Worked examples, computed by antt. Assumes nothing.
use mathlib.Core.Path.{◌≡◌, refl}
use mathlib.Core.Bool.{true, false}
use mathlib.Core.List.{[], ◌∷◌}
use Rattle.text.specs.Digit.{digit_of}
use Rattle.text.specs.Number.{rest_of, digits_of, hexed, number_of}
use Rattle.text.specs.Put.{letter_of, hex_of, decimals, decimal_of}
use Rattle.text.specs.Line.{kept_of, split}
use Rattle.text.specs.Bytes.{pairs, spells}
use Rattle.std.specs.Prelude.{Some, None}

-- "0xaBc"
hexadecimal : number_of (48 ∷ 120 ∷ 97 ∷ 66 ∷ 99 ∷ []) 4095 ≡ Some 0xabc
unfolding number_of hexed digits_of rest_of digit_of
hexadecimal = refl

-- "0xaBc" is more than 2747
over_the_limit : number_of (48 ∷ 120 ∷ 97 ∷ 66 ∷ 99 ∷ []) 2747 ≡ None
unfolding number_of hexed digits_of rest_of digit_of
over_the_limit = refl

-- "0014"
leading_zeros : number_of (48 ∷ 48 ∷ 49 ∷ 52 ∷ []) 14 ≡ Some 14
unfolding number_of hexed digits_of rest_of digit_of
leading_zeros = refl

-- "0x" and ""
no_digits : number_of (48 ∷ 120 ∷ []) 9 ≡ None
unfolding number_of hexed digits_of rest_of digit_of
no_digits = refl

empty : number_of [] 9 ≡ None
unfolding number_of hexed digits_of rest_of digit_of
empty = refl

-- "0X1"
capital_x : number_of (48 ∷ 88 ∷ 49 ∷ []) 9 ≡ None
unfolding number_of hexed digits_of rest_of digit_of
capital_x = refl

-- 18446744073709551615
largest : decimal_of 18446744073709551615 ≡ 49 ∷ 56 ∷ 52 ∷ 52 ∷ 54 ∷ 55 ∷ 52 ∷ 52 ∷ 48 ∷ 55 ∷ 51 ∷ 55 ∷ 48 ∷ 57 ∷ 53 ∷ 53 ∷ 49 ∷ 54 ∷ 49 ∷ 53 ∷ []
unfolding decimal_of decimals
largest = refl

-- "0aBF" is bytes; "abc", "" and "--" are not
two_bytes : pairs (48 ∷ 97 ∷ 66 ∷ 70 ∷ []) ≡ 0x0a ∷ 0xbf ∷ []
unfolding digit_of
two_bytes = refl

bytes : spells (48 ∷ 97 ∷ 66 ∷ 70 ∷ []) ≡ true
unfolding spells digit_of
bytes = refl

odd : spells (97 ∷ 98 ∷ 99 ∷ []) ≡ false
unfolding spells digit_of
odd = refl

nothing : spells [] ≡ false
unfolding spells digit_of
nothing = refl

two_dashes : spells (45 ∷ 45 ∷ []) ≡ false
unfolding spells digit_of
two_dashes = refl

hex : hex_of (0x0a ∷ 0xbf ∷ []) ≡ 48 ∷ 97 ∷ 98 ∷ 102 ∷ []
unfolding letter_of
hex = refl

-- "a b # c #" is "a b"
comment : kept_of (97 ∷ 32 ∷ 98 ∷ 32 ∷ 35 ∷ 32 ∷ 99 ∷ 32 ∷ 35 ∷ []) ≡ 97 ∷ 32 ∷ 98 ∷ []
unfolding kept_of
comment = refl

-- " a  b" is "", "a", "", "b"
empty_words : split (32 ∷ 97 ∷ 32 ∷ 32 ∷ 98 ∷ []) ≡ [] ∷ (97 ∷ []) ∷ [] ∷ (98 ∷ []) ∷ []
empty_words = refl
