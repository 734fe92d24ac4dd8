-- How many characters an answer has, at most. Assumes nothing.
use Prim.Native.Nat.{ℕ, ◌*◌, ◌≤◌}
use mathlib.Core.Path.{◌≡◌, refl}
use mathlib.Core.Bool.{Bool, true, false}
use mathlib.Core.List.{List, [], ◌∷◌, ◌++◌}
use native.Mathlib.Omega.{arith}
use lib.ListN.{length, length-append}
use Rattle.std.specs.Prelude.{Option, Some, None, Result, Ok, Err}
use Rattle.codec.specs.Ident.{network_type, kind_of}
use Rattle.codec.specs.Refusal.{number_of}
use Rattle.codec.specs.declared.time.Time.{Time}
use Rattle.codec.specs.declared.header.Header.{Header}
use Rattle.codec.specs.declared.refusal.Refusal.{Refusal}
use Rattle.codec.specs.declared.ident.Ident.{Ident}
use Rattle.codec.specs.declared.item.Item.{Item}
use Rattle.reader.specs.Answer.{judged_number, judged_header}
use Rattle.reader.specs.declared.place.Stepped.{Stepped}
use Rattle.text.specs.Put.{decimal_of, hex_of}
use Rattle.text.proofs.PutLaws.{decimal_length, hexes-length}
use Rattle.text.proofs.DraftLaws.{field_length}
use Rattle.script.specs.Answer.{time_text, state_text, flexray_text, error_text, ident_text, load_text, placed_text, item_text, judged_text, stepped_text, bad_text, numbered_text, back_text}

pub hex_some : (bs : List ℕ) → (length bs ≡ 0 → ⊥) → 2 * length bs ≡ length (hex_of bs)
hex_some [] h = absurd (h refl)
hex_some (b ∷ bs) h = let e = hexes-length (b ∷ bs) in omega arith

time_length : (t : Time) → length (time_text t) ≤ 42
unfolding time_text
time_length t = simp length-append (omega (arith, field_length t.sec, field_length t.nano))

state_length : (s : Option ℕ) → length (state_text s) ≤ 21
state_length (Some b) = field_length b
state_length None = omega arith

flexray_length : (c s y : ℕ) → length (flexray_text c s y) ≤ 63
unfolding flexray_text
flexray_length c s y = simp length-append (omega (arith, field_length c, decimal_length s, decimal_length y))

error_length : (c : ℕ) → length (error_text c) ≤ 25
unfolding error_text
error_length c = simp length-append (omega (arith, field_length c))

ident_length : (id : Ident) → length (ident_text id) ≤ 63
ident_length (Ident.Can key) = let h = field_length key in omega arith
ident_length (Ident.Lin pid) = let h = field_length pid in omega arith
ident_length (Ident.FlexRay c s y) = flexray_length c s y
ident_length (Ident.FlexRayError c) = let h = error_length c in omega arith
ident_length (Ident.Bare k) = omega arith

load_length : (b : Bool) (n : ℕ) → length (load_text b n) ≤ 21
load_length true n = field_length n
load_length false n = omega arith

placed_length : (n : ℕ) (t : Time) → length (placed_text n t) ≤ 64
unfolding placed_text
placed_length n t = simp length-append (omega (arith, field_length n, time_length t))

item_length : (it : Item) (n : ℕ) → length (item_text it n) ≤ 147
unfolding item_text
item_length it n =
    simp length-append
    (omega (arith, field_length (network_type (kind_of it.ident)), field_length it.network, state_length it.state, ident_length it.ident, load_length it.carries n))

pub judged_length : (j : Result Header Refusal) → length (judged_text j) ≤ 256
unfolding judged_text
judged_length j =
    let h = judged_header j in
    simp length-append (omega (arith, decimal_length (judged_number j), field_length h.sequence, time_length h.time, field_length h.length))

pub stepped_length : (s : Result (Option Stepped) Refusal) → length (stepped_text s) ≤ 256
stepped_length (Ok (Some s)) = simp length-append (omega (arith, placed_length s.next s.time, item_length s.item s.length))
stepped_length (Ok None) = omega arith
stepped_length (Err why) = simp length-append (omega (arith, decimal_length (number_of why)))

pub bad_length : (n : ℕ) → length (bad_text n) ≤ 256
unfolding bad_text
bad_length n = simp length-append (omega (arith, field_length n))

pub numbered_length : (n v : ℕ) → length (numbered_text n v) ≤ 255
unfolding numbered_text
numbered_length n v = simp length-append (omega (arith, decimal_length n, field_length v))

pub back_length : (n v : ℕ) → length (back_text n v) ≤ 256
unfolding back_text
back_length n v = simp length-append (omega (arith, decimal_length n, field_length v))

-- a space behind a number, and behind two
pub number_length : (n : ℕ) → length (decimal_of n ++ (32 ∷ [])) ≤ 256
number_length n = simp length-append (omega (arith, decimal_length n))

pub pair_length : (n v : ℕ) → length (numbered_text n v ++ (32 ∷ [])) ≤ 256
pair_length n v = simp length-append (omega (arith, numbered_length n v))
