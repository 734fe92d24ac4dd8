-- The ring of slots as a queue: a frame that is put stands behind those that wait, and they stay as they are.
use Prim.Native.Nat.{ℕ, zero, suc, ◌+◌, ◌%◌, ◌≤◌, ◌<◌, min}
use mathlib.Core.Path.{◌≡◌, refl, sym, ◌∙◌, ap}
use mathlib.Core.Bool.{Bool, true, false}
use mathlib.Core.List.{List, [], ◌∷◌, ◌++◌}
use native.Mathlib.Omega.{arith}
use lib.ListN.{length, take, drop, set, replicate, length-set, length-replicate}
use lib.Seq.{length-take-le, take_at, get_or-set_same, get_or-set_other}
use lib.Dec.{eqb}
use borrow.Author.Tests.{le-leb, eqb-true, eqb-false}
use Rattle.codec.specs.Number.{over}
use Rattle.codec.specs.Field.{bytes_at}
use Rattle.codec.proofs.NumberLaws.{length_over, has_room_lem}
use Rattle.framer.specs.Queue.{empty_queue, no_slot, slot_at, held, queued, length_at, frame_at}
use Rattle.framer.specs.declared.queue.Slot.{Slot}
use Rattle.framer.specs.declared.queue.Queue.{Queue}
use Rattle.std.proofs.lemmas.List.{get_or-replicate}
use Rattle.history.specs.History.{slots_from}

-- bytes written at the front
front_same : (l bs : List ℕ) → take (length bs) (over l 0 bs) ≡ bs
front_same l bs = take_at bs (drop (0 + length bs) l) (length bs) refl

part_is : (s : List ℕ) (at n : ℕ) → at + n ≤ length s → bytes_at s at n ≡ take n (drop at s)
unfolding bytes_at
part_is s at n h = rw (has_room_lem s at n h)

-- eight slots of 1,024 bytes
pub record Store (q : Queue) : Type 0 where
  pub slots : length q.slots ≡ 8
  pub bytes : (k : ℕ) → k ≤ 7 → length (slot_at q k).bytes ≡ 1024

pub empty_store : Store empty_queue
unfolding empty_queue
empty_store = record {
  slots = length-replicate {A = Slot} 8 (record { bytes = replicate 1024 0; length = 0 });
  bytes = λ k h. ap (λ (x : Slot). length x.bytes) (get_or-replicate 8 k (record { bytes = replicate 1024 0; length = 0 }) no_slot (omega arith))
      ∙ length-replicate {A = ℕ} 1024 0;
}

-- what stands in a slot
length-at : (q : Queue) (k : ℕ) → k ≤ 7 → length_at q k ≡ min (slot_at q k).length 1024
unfolding length_at
length-at q k h = rw (le-leb k 7 h)

pub length_most : (q : Queue) (k : ℕ) → k ≤ 7 → length_at q k ≤ 1024
length_most q k h = rw (length-at q k h) (omega arith)

abbrev frame_in : Slot → List ℕ
frame_in x = take (min x.length 1024) x.bytes

frame-at : (q : Queue) (k : ℕ) → Store q → k ≤ 7 → frame_at q k ≡ frame_in (slot_at q k)
frame-at q k s h = rw (length-at q k h) (part_is (slot_at q k).bytes 0 (min (slot_at q k).length 1024) (omega (arith, s.bytes k h)))

pub frame_length : (q : Queue) (k : ℕ) → Store q → k ≤ 7 → length (frame_at q k) ≡ length_at q k
frame_length q k s h =
    rw (frame-at q k s h, length-at q k h)
    (length-take-le (min (slot_at q k).length 1024) (slot_at q k).bytes (omega (arith, s.bytes k h)))

-- a frame put in a slot stands there, and the other slots stay
module _ (q : Queue) (slot : ℕ) (frame : List ℕ) (s : Store q) (hs : slot ≤ 7) (hf : length frame ≤ 1024) where
  put_is : queued q slot frame ≡ record { slots = set q.slots slot (held (slot_at q slot) frame) }
  unfolding queued
  put_is = rw (le-leb (length frame) 1024 hf, le-leb slot 7 hs)

  slot_same : slot_at (queued q slot frame) slot ≡ held (slot_at q slot) frame
  slot_same = rw put_is (get_or-set_same q.slots slot (held (slot_at q slot) frame) no_slot (omega (arith, s.slots)))

  slot_other : (k : ℕ) → (k ≡ slot → ⊥) → slot_at (queued q slot frame) k ≡ slot_at q k
  slot_other k n = rw put_is (get_or-set_other q.slots slot k (held (slot_at q slot) frame) no_slot n)

  held_length : length (held (slot_at q slot) frame).bytes ≡ 1024
  unfolding held
  held_length = length_over (slot_at q slot).bytes 0 frame (omega (arith, s.bytes slot hs)) ∙ s.bytes slot hs

  pub put_store : Store (queued q slot frame)
  put_store = record {
    slots = rw put_is (length-set q.slots slot (held (slot_at q slot) frame) ∙ s.slots);
    bytes = λ k h. go k h (eqb k slot) refl;
  }
    where
      go : (k : ℕ) → k ≤ 7 → (b : Bool) → eqb k slot ≡ b → length (slot_at (queued q slot frame) k).bytes ≡ 1024
      go k h true e = rw (eqb-true k slot e, slot_same) held_length
      go k h false e = rw (slot_other k (eqb-false k slot e)) (s.bytes k h)

  held_is : frame_in (held (slot_at q slot) frame) ≡ frame
  unfolding held
  held_is = let m : min (length frame) 1024 ≡ length frame = omega arith in rw m (front_same (slot_at q slot).bytes frame)

  put_same : frame_at (queued q slot frame) slot ≡ frame
  put_same = frame-at (queued q slot frame) slot put_store hs ∙ ap frame_in slot_same ∙ held_is

  put_other : (k : ℕ) → k ≤ 7 → (k ≡ slot → ⊥) → frame_at (queued q slot frame) k ≡ frame_at q k
  put_other k h n = frame-at (queued q slot frame) k put_store h ∙ ap frame_in (slot_other k n) ∙ sym (frame-at q k s h)

  -- a frame that is put behind n others, fewer than eight
  pub push : (k n : ℕ) → slot ≡ (k + n) % 8 → n < 8 → slots_from (queued q slot frame) k (suc n) ≡ slots_from q k n ++ (frame ∷ [])
  push k zero e h = let i : k % 8 ≡ slot = omega arith in rw (i, put_same)
  push k (suc n) e h =
      let d : k % 8 ≡ slot → ⊥ = omega arith in
      rw (put_other (k % 8) (omega arith) d, push (suc k) n (omega arith) (omega arith))

-- only the number mod 8 of a slot counts
pub ring : (q : Queue) (k j n : ℕ) → k % 8 ≡ j % 8 → slots_from q k n ≡ slots_from q j n
ring q k j zero e = refl
ring q k j (suc n) e = rw (e, ring q (suc k) (suc j) n (omega arith))
