-- The PID of LIN: its rule in arithmetic, and what it leaves of the 256 bytes. Assumes nothing.
use Prim.Native.Nat.{ℕ, zero, suc, ◌+◌, ◌-◌, ◌*◌, ◌/◌, ◌%◌, ◌^◌, ◌≤◌, ◌<◌}
use mathlib.Core.Path.{◌≡◌, refl, sym, ap, subst, ◌∙◌}
use mathlib.Core.Bool.{Bool, true, false, not, ◌&&◌}
use mathlib.Core.Logic.{⊎_elim}
use native.Mathlib.Nat.{le_of_suc-le-suc, eq-or-lt_of_le, not-suc-le-zero, mod-lt, div-one}
use native.Mathlib.Omega.{arith}
use lib.ListN.{length}
use lib.Dec.{ltb, eqb}
use lib.Bits.{bit_and, bit_or, bit_xor, and_mask, xor_mod, xor_lt, or_shifted}
use borrow.Author.Tests.{eqb-true, eq-eqb, ne_eqb, ltb-true, ltb-false, not-true}
use Rattle.codec.specs.Choice.{bit}
use Rattle.codec.specs.Ident.{even_parity, odd_parity, pid_ok, ident_ok}
use Rattle.codec.specs.Layout.{Entry, Valid}
use Rattle.codec.specs.declared.ident.Ident.TheVariants as Ident
use Rattle.codec.proofs.BoolLaws.{and_l, and_r}
use Rattle.codec.proofs.ItemLaws.{ok_ident}

-- how many numbers below n pass a test
abbrev pub count : (ℕ → Bool) → ℕ → ℕ
count t zero = 0
count t (suc n) = bit (t n) + count t n

abbrev every : (ℕ → Bool) → ℕ → Bool
every t zero = true
every t (suc n) = t n && every t n

-- what was computed for each number below n holds for any
sweep : (t : ℕ → Bool) (n : ℕ) → every t n ≡ true → (m : ℕ) → m < n → t m ≡ true
sweep t zero e m h = absurd (not-suc-le-zero h)
sweep t (suc n) e m h =
    ⊎_elim (λ (q : m ≡ n). subst (λ (k : ℕ). t k ≡ true) (sym q) (and_l (t n) (every t n) e))
    (λ (q : m < n). sweep t n (and_r (t n) (every t n) e) m q) (eq-or-lt_of_le (le_of_suc-le-suc h))

abbrev alike : Bool → Bool → Bool
alike true b = b
alike false b = not b

alike_true : (a b : Bool) → alike a b ≡ true → a ≡ b
alike_true true b e = sym e
alike_true false b e = sym (not-true b e)

-- the PID of an id, by adding: an exclusive or of bits is the remainder of their sum by 2
abbrev pub pid_of : ℕ → ℕ
pid_of id = id + (id + id / 2 + id / 4 + id / 16) % 2 * 64 + (1 + id / 2 + id / 8 + id / 16 + id / 32) % 2 * 128

-- of the 256 bytes 64 pass
pub sixty_four : count pid_ok 256 ≡ 64
unfolding pid_ok even_parity odd_parity
sixty_four = refl

-- exactly one for each id
abbrev pub pids_with : ℕ → ℕ
pids_with id = count (λ pid. pid_ok pid && eqb (pid % 64) id) 256

pub one_each : (id : ℕ) → id < 64 → pids_with id ≡ 1
unfolding pid_ok even_parity odd_parity
one_each id h = eqb-true (pids_with id) 1 (sweep (λ id. eqb (pids_with id) 1) 64 refl id h)

-- P0 and P1 are bits
even_small : (pid : ℕ) → even_parity pid < 2
unfolding even_parity
even_small pid =
    let b : (n : ℕ) → pid / 2 ^ n % 2 < 2 = λ n. mod-lt _ (omega arith) in
    xor_lt 1 _ _ (xor_lt 1 _ _ (xor_lt 1 _ _ (b 0) (b 1)) (b 2)) (b 4)

odd_small : (pid : ℕ) → odd_parity pid < 2
unfolding odd_parity
odd_small pid = omega arith

-- a PID is a byte
pub pid_small : (pid : ℕ) → pid_ok pid ≡ true → pid < 256
unfolding pid_ok
pid_small pid e =
    let p = even_small pid in
    let q = odd_small pid in
    let h = eqb-true (pid / 2 ^ 6) _ e in
    omega arith

-- the exclusive or of whole numbers, of which one bit is kept, is that of their low bits
low_bits : (a b c d : ℕ) → bit_xor (bit_xor (bit_xor a b) c) d % 2 ≡ bit_xor (bit_xor (bit_xor (a % 2) (b % 2)) (c % 2)) (d % 2)
low_bits a b c d = xor_mod (bit_xor (bit_xor a b) c) d 1 ∙ ap (λ (x : ℕ). bit_xor x (d % 2)) (xor_mod (bit_xor a b) c 1 ∙ ap (λ (x : ℕ). bit_xor x (c % 2)) (xor_mod a b 1))

complement : (x : ℕ) → x < 2 → bit_xor x 1 ≡ 1 - x
complement zero h = refl
complement (suc zero) h = refl
complement (suc (suc x)) h = absurd (not-suc-le-zero (le_of_suc-le-suc (le_of_suc-le-suc h)))

-- the two bits as the program has them
even_asked : (pid : ℕ) → bit_and (bit_xor (bit_xor (bit_xor pid (pid / 2)) (pid / 4)) (pid / 16)) 1 ≡ even_parity pid
unfolding even_parity
even_asked pid = rw div-one (and_mask _ 1 ∙ low_bits pid (pid / 2) (pid / 4) (pid / 16))

odd_asked : (pid : ℕ) → bit_and (bit_xor (bit_xor (bit_xor (bit_xor (pid / 2) (pid / 8)) (pid / 16)) (pid / 32)) 1) 1 ≡ odd_parity pid
unfolding odd_parity
odd_asked pid =
    let x : ℕ = bit_xor (bit_xor (bit_xor (pid / 2) (pid / 8)) (pid / 16)) (pid / 32) in
    and_mask (bit_xor x 1) 1 ∙ xor_mod x 1 1 ∙ complement (x % 2) (mod-lt x (omega arith))
    ∙ ap (λ (y : ℕ). 1 - y) (low_bits (pid / 2) (pid / 8) (pid / 16) (pid / 32))

-- the rule as the program asks it, P1 shifted above P0
pub pid_asked : (pid : ℕ)
    → eqb (pid / 64)
    (bit_or (bit_and (bit_xor (bit_xor (bit_xor (bit_xor (pid / 2) (pid / 8)) (pid / 16)) (pid / 32)) 1) 1 * 2 % 2 ^ 32)
    (bit_and (bit_xor (bit_xor (bit_xor pid (pid / 2)) (pid / 4)) (pid / 16)) 1))
    ≡ pid_ok pid
unfolding pid_ok
pid_asked pid =
    let q = odd_small pid in
    let e : odd_parity pid * 2 % 2 ^ 32 ≡ odd_parity pid * 2 = omega arith in
    rw (odd_asked pid, even_asked pid, e) (ap (eqb (pid / 64)) (or_shifted (odd_parity pid) 1 (even_parity pid) (even_small pid)))

-- the rule in arithmetic, computed for each of the 256 bytes
abbrev agrees : ℕ → Bool
agrees pid = alike (pid_ok pid) (eqb pid (pid_of (pid % 64)))

bytes : every agrees 256 ≡ true
unfolding pid_ok even_parity odd_parity
bytes = refl

-- and for any number: a PID is that of the id in its low six bits
pub pid_is : (pid : ℕ) → pid_ok pid ≡ eqb pid (pid_of (pid % 64))
pid_is pid = go (ltb pid 256) refl
  where
    away : 256 ≤ pid → (b : Bool) → pid_ok pid ≡ b → b ≡ false
    away w true e = let z : ⊥ = omega (arith, pid_small pid e) in absurd z
    away w false e = refl

    go : (b : Bool) → ltb pid 256 ≡ b → pid_ok pid ≡ eqb pid (pid_of (pid % 64))
    go true h = alike_true _ _ (sweep agrees 256 bytes pid (ltb-true pid 256 h))
    go false h =
        let w : 256 ≤ pid = ltb-false pid 256 h in
        away w (pid_ok pid) refl ∙ sym (ne_eqb pid (pid_of (pid % 64)) (λ e. omega arith))

-- each id has a PID, whose low six bits it is
pub pid-of : (id : ℕ) → id < 64 → pid_ok (pid_of id) ≡ true × (pid_of id % 64 ≡ id)
pid-of id h =
    let m : pid_of id % 64 ≡ id = omega arith in
    (pid_is (pid_of id) ∙ eq-eqb _ _ (sym (ap pid_of m)), m)

-- one bit of a PID turned over always shows, computed for each PID and each bit
abbrev shows : ℕ → ℕ → Bool
shows n pid = not (pid_ok pid && pid_ok (bit_xor pid (2 ^ n)))

turns : every (λ n. every (shows n) 256) 8 ≡ true
unfolding pid_ok even_parity odd_parity
turns = refl

pub turned_shows : (pid n : ℕ) → n < 8 → pid_ok pid ≡ true → pid_ok (bit_xor pid (2 ^ n)) ≡ false
turned_shows pid n h e =
    let a = sweep (λ n. every (shows n) 256) 8 turns n h in
    let b = not-true _ (sweep (shows n) 256 a pid (pid_small pid e)) in
    ap (λ (t : Bool). t && pid_ok (bit_xor pid (2 ^ n))) (sym e) ∙ b

-- a LIN item that may stand in a frame carries the PID of its id
pub valid_pid : (e : Entry) (pid : ℕ) → Valid e → e.item.ident ≡ Ident.Lin pid → pid ≡ pid_of (pid % 64)
valid_pid e pid v q =
    let k : pid_ok pid ≡ true = sym (ap ident_ok q) ∙ ok_ident e.item (length e.payload) v.ok in
    eqb-true pid (pid_of (pid % 64)) (sym (pid_is pid) ∙ k)
