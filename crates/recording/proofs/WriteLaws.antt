-- Laws of writing a field. Assumes nothing.
use Prim.Native.Nat.{ℕ, ◌+◌, ◌≤◌, ◌<◌}
use mathlib.Core.Path.{◌≡◌, refl, ◌∙◌, ap}
use mathlib.Core.Bool.{true, false}
use mathlib.Core.List.{List, [], ◌++◌, append-nil}
use native.Mathlib.Omega.{arith}
use lib.ListN.{length, set, drop_of_length-le}
use Rattle.std.specs.Prelude.{Option, Result, Ok, Err, ⊤}
use Rattle.codec.specs.Number.{be, Wrote, Laid}
use Rattle.codec.specs.Time.{time_ok}
use Rattle.codec.specs.declared.time.Time.{Time}
use Rattle.codec.proofs.NumberLaws.{laid, laid_by, chain_put, no_room, has_room_lem}
use Rattle.recording.specs.declared.error.RecordError.{RecordError}
use Rattle.recording.specs.Write.{Recorded, field_bytes, start_bytes, start_answer}

pub field_length : (tag : ℕ) (body : List ℕ) → length (field_bytes tag body) ≡ 3 + length body
unfolding field_bytes
field_length tag body = omega arith

-- no room: 12
pub field_full : {l : List ℕ} {at : ℕ} (tag : ℕ) (body : List ℕ) → length l < at + (3 + length body)
    → Recorded (Ok tt) l at (field_bytes tag body) l (Err RecordError.Small)
field_full {l} {at} tag body h =
    let e = no_room l at (length (field_bytes tag body)) (rw (field_length tag body) h) in
    record { list = simp e; says = simp e }

-- room: tag, length and body laid one after the other
pub field_laid : {l m l' : List ℕ} {at : ℕ} {p q : Option ℕ} (tag : ℕ) (body : List ℕ)
    → Wrote true (set l at tag) (at + 1) (be 2 (length body)) m p → Wrote true m (at + 3) body l' q → at + (3 + length body) ≤ length l
    → Recorded (Ok tt) l at (field_bytes tag body) l' (Ok (at + (3 + length body)))
unfolding field_bytes
field_laid {l} {m} {l'} {at} {p} {q} tag body a b h =
    let w : at + 3 ≡ at + 1 + 2 = omega arith in
    let b' : Wrote true m (at + 1 + 2) body l' q = rw w at b in
    let f : at + (3 + length body) ≡ at + 1 + 2 + length body = omega arith in
    let d : Laid l at (field_bytes tag body) l' (at + 1 + 2 + length body)
    = chain_put (chain_put (laid {at = at} tag [] refl (omega arith)) a (omega arith)) b' (omega arith) in
    let e = has_room_lem l at (length (field_bytes tag body)) (omega (arith, field_length tag body)) in
    record { list = d.list ∙ simp e; says = ap Ok (f ∙ d.next) ∙ simp e }

-- a refusal leaves the output as it was
pub not_recorded : {l : List ℕ} {at : ℕ} {bs : List ℕ} {a : Result ⊤ RecordError} {why : RecordError} → a ≡ Err why → Recorded a l at bs l (Err why)
not_recorded e = rw e record { list = refl; says = refl }

pub recorded_as : {l : List ℕ} {at : ℕ} {bs l' : List ℕ} {r : Result ℕ RecordError} {a : Result ⊤ RecordError} → a ≡ Ok tt
    → Recorded (Ok tt) l at bs l' r → Recorded a l at bs l' r
recorded_as e d = rw e d

pub start_out : (t : Time) → time_ok t ≡ false → start_answer t ≡ Err RecordError.Start
unfolding start_answer
start_out t e = simp e

pub start_in_range : (t : Time) → time_ok t ≡ true → start_answer t ≡ Ok tt
unfolding start_answer
start_in_range t e = simp e

-- seconds and nanoseconds over ten bytes are the body of a start
pub start_laid : {l m l' : List ℕ} {p q : Option ℕ} (t : Time) → length l ≡ 10
    → Wrote true l 0 (be 6 t.sec) m p → Wrote true m 6 (be 4 t.nano) l' q → l' ≡ start_bytes t
unfolding start_bytes
start_laid {l} {m} {l'} t n a b =
    let d : Laid l 0 (be 6 t.sec ++ be 4 t.nano) l' 10 = chain_put (laid_by a refl (omega arith)) b (omega arith) in
    let h : length l ≤ 10 = omega arith in
    d.list ∙ ap (λ (r : List ℕ). start_bytes t ++ r) (drop_of_length-le l h) ∙ append-nil (start_bytes t)
