-- Laws of what is held of the field under way. Assumes nothing.
use Prim.Native.Nat.{ℕ, zero, suc, ◌+◌, ◌-◌, ◌≤◌}
use mathlib.Core.Path.{◌≡◌, ◌∙◌, ap}
use mathlib.Core.Bool.{Bool, true, false}
use mathlib.Core.List.{List, [], ◌∷◌}
use native.Mathlib.Omega.{arith}
use lib.ListN.{length, take, get_or, length-take}
use lib.Dec.{ltb}
use Rattle.codec.specs.Choice.{pick}
use Rattle.codec.specs.Number.{Bytes, Wrote}
use Rattle.std.specs.Prelude.{Option}
use Rattle.codec.proofs.NumberLaws.{kept}
use Rattle.recording.specs.Pieces.{fresh, size_of, sound_of, head_byte, headed_of, place_of, used_of, next_of}
use Rattle.recording.specs.declared.pieces.Place.{Place}
use Rattle.recording.specs.declared.pieces.Step.{Step}
use Rattle.recording.proofs.PlaceLaws.{used_is, place_short}
use Rattle.mending.specs.Calls.{held_of}

-- a place of bytes stays one
get_byte : (s : List ℕ) (i d : ℕ) → Bytes s → d ≤ 255 → get_or s i d ≤ 255
get_byte [] i d b h = h
get_byte (x ∷ s) zero d b h = omega (arith, b.0)
get_byte (x ∷ s) (suc i) d b h = get_byte s i d b.1 h

head_byte_lem : (k past old : ℕ) (piece : List ℕ) → Bytes piece → old ≤ 255 → head_byte k past old piece ≤ 255
unfolding head_byte
head_byte_lem k past old piece b h = go (ltb k past)
  where
    go : (t : Bool) → pick t old (get_or piece (k - past) old) ≤ 255
    go true = h
    go false = get_byte piece (k - past) old b h

module _ (p : Place) (piece : List ℕ) (b : Bytes piece) (h : p.high ≤ 255) (l : p.low ≤ 255) where
  sound_bytes : ((sound_of p).high ≤ 255) × ((sound_of p).low ≤ 255)
  unfolding sound_of
  sound_bytes = go (ltb p.past (size_of p))
    where
      go : (t : Bool) → ((pick t p (fresh p.skipped)).high ≤ 255) × ((pick t p (fresh p.skipped)).low ≤ 255)
      go true = (h, l)
      go false = (omega arith, omega arith)

  -- the longest field, with tag and length, is 65,538 bytes
  held_most : (sound_of p).past + used_of (place_of p piece) (length piece) ≤ 65538
  unfolding used_of place_of headed_of
  held_most =
      let s = sound_bytes in
      let x = head_byte_lem 1 (sound_of p).past (sound_of p).high piece b s.0 in
      let y = head_byte_lem 2 (sound_of p).past (sound_of p).low piece b s.1 in
      let z = place_short p piece in
      omega arith

  -- so that it always finds room
  pub held_by : {hold hold' bs : List ℕ} {at : ℕ} {w : Option ℕ} {r : Step} (buffer : List ℕ)
      → length hold ≡ 65538 → at ≡ (sound_of p).past → r ≡ next_of p buffer piece → bs ≡ take r.used piece → Wrote true hold at bs hold' w
      → hold' ≡ held_of p hold piece
  unfolding held_of
  held_by {hold} {hold'} {bs} {at} {w} {r} buffer n e f g k =
      let u : r.used ≡ used_of (place_of p piece) (length piece) = ap (λ (x : Step). x.used) f ∙ used_is p buffer piece in
      let m = held_most in
      let q : bs ≡ take (used_of (place_of p piece) (length piece)) piece = g ∙ ap (λ (i : ℕ). take i piece) u in
      let a : length bs ≤ used_of (place_of p piece) (length piece) = rw (q, length-take) (omega arith) in
      kept k (omega arith) ∙ rw (e, q)
