-- Big-endian numbers (Specification of Bus Mirroring, 7.4.2), bytes written over a list, and bytes read from one.
use Rattle.std.specs.Prelude.{ℕ, zero, suc, ◌+◌, ◌*◌, ◌/◌, ◌%◌, ◌^◌, ◌<◌, ◌≤◌, ◌≡◌, Bool, true, false, List, [], ◌∷◌, ◌++◌, length, take, drop, leb, Option, Some, None}
use Rattle.codec.specs.Choice.{pick}

-- v without its n low bytes
abbrev pub shr : ℕ → ℕ → ℕ
shr zero v = v
shr (suc n) v = v / 256 ^ suc n

-- the n low bytes of v, the highest first
abbrev pub be : ℕ → ℕ → List ℕ
be zero v = []
be (suc n) v = shr n v % 256 ∷ be n v

-- the number that bytes are, the highest first
abbrev pub val : ℕ → List ℕ → ℕ
val a [] = a
val a (b ∷ bs) = val (a * 256 + b) bs

-- a list of bytes
abbrev pub Bytes : List ℕ → Type 0
Bytes [] = Unit
Bytes (b ∷ bs) = (b < 256) × Bytes bs

-- l with bs over it from index at: what stood before, bs, what stood after
abbrev pub over : List ℕ → ℕ → List ℕ → List ℕ
over l at bs = take at l ++ bs ++ drop (at + length bs) l

-- n bytes at index at stand within l
unfoldable pub fits : List ℕ → ℕ → ℕ → Bool
fits l at n = leb (at + n) (length l)

-- the value is one that can be written, and there is room
abbrev pub fits_in : Bool → List ℕ → ℕ → ℕ → Bool
fits_in true l at n = fits l at n
fits_in false l at n = false

-- where fits_in, bs stand at index at and the answer is the index past them; else nothing changed
pub record Wrote (fit : Bool) (l : List ℕ) (at : ℕ) (bs : List ℕ) (l' : List ℕ) (r : Option ℕ) : Type 0 where
  pub list : l' ≡ pick (fits_in fit l at (length bs)) (over l at bs) l
  pub answer : r ≡ pick (fits_in fit l at (length bs)) (Some (at + length bs)) None

-- bs stand at index at, and r is the index past them
pub record Laid (l : List ℕ) (at : ℕ) (bs : List ℕ) (l' : List ℕ) (r : ℕ) : Type 0 where
  pub list : l' ≡ over l at bs
  pub next : r ≡ at + length bs

-- a byte, and the number that it is
pub record Small (x r : ℕ) : Type 0 where
  pub same : r ≡ x
  pub small : r < 256

-- a number of n bytes
pub record Word (n x r : ℕ) : Type 0 where
  pub is : r ≡ x
  pub below : r < 256 ^ n

-- how many bytes bs are, at most k
pub record Sized (bs : List ℕ) (k r : ℕ) : Type 0 where
  pub is : r ≡ length bs
  pub most : r ≤ k

-- the number x, below k
pub record Below (x k r : ℕ) : Type 0 where
  pub is : r ≡ x
  pub below : r < k

-- the number that the n bytes of s from index at are
unfoldable pub word : ℕ → List ℕ → ℕ → ℕ
word n s at = val 0 (take n (drop at s))

-- the same, and 0 where they are not all there or are more than eight
unfoldable pub word_at : ℕ → List ℕ → ℕ → ℕ
word_at n s at = pick (leb n 8) (pick (fits s at n) (word n s at) 0) 0

-- a number of n bytes, at most eight, and the index past it
unfoldable pub get_of : ℕ → List ℕ → ℕ → Option (ℕ × ℕ)
get_of n s at = pick (leb n 8) (pick (fits s at n) (Some (word n s at, at + n)) None) None

-- the index past n bytes at index at, where they are within s
unfoldable pub part_of : List ℕ → ℕ → ℕ → Option ℕ
part_of s at n = pick (fits s at n) (Some (at + n)) None
