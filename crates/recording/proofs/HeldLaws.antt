-- What a place and the buffer hold of the field under way, and one call on it. Assumes nothing.
use Prim.Native.Nat.{ℕ, zero, suc, ◌+◌, ◌-◌, ◌≤◌, ◌<◌}
use mathlib.Core.Path.{◌≡◌, refl, sym, ◌∙◌, ap}
use mathlib.Core.Bool.{Bool, true, false, ◌&&◌}
use mathlib.Core.List.{List, [], ◌∷◌, ◌++◌}
use native.Mathlib.Omega.{arith}
use lib.ListN.{length, take, drop, get_or, length-drop, length-append, drop_of_length-le, get_or-append}
use lib.Seq.{get_or-append_right, length-take-le, take_at, drop-append-add, take-append-add, take-nil, take_all}
use lib.Dec.{ltb, leb}
use borrow.Author.Tests.{leb-true, leb-false, ltb-true, ltb-false}
use Rattle.std.specs.Prelude.{Result, None}
use Rattle.std.proofs.lemmas.List.{get_or_default}
use Rattle.codec.specs.Choice.{pick}
use Rattle.codec.specs.Number.{over, fits}
use Rattle.codec.specs.Field.{bytes_at}
use Rattle.codec.proofs.NumberLaws.{has_room_lem, length_over}
use Rattle.recording.specs.File.{Finding, length_in, size_in, complete, first, verdict, keeps, finding_of}
use Rattle.recording.specs.Pieces.{fresh, length_of, size_of, head_byte, headed_of, used_of, part_of, buffer_of, found_of, counted, done_of, more_of, moved_of, place_of, next_of, kept_of}
use Rattle.recording.specs.Calls.{noted}
use Rattle.recording.specs.declared.error.RecordError.{RecordError}
use Rattle.recording.specs.declared.field.Found.{Found}
use Rattle.recording.specs.declared.pieces.Place.{Place}
use Rattle.recording.proofs.FieldLaws.{keeps_short, unkept}
use Rattle.recording.proofs.PlaceLaws.{sound_same, head_old, head_new, used_all, used_rest, ends_more, ends_done}
use Rattle.recording.proofs.FileLaws.{there, not_yet, is_cut, body-length}

-- u is what was read of the field under way
pub record Holds (p : Place) (buffer u : List ℕ) : Type 0 where
  pub past : p.past ≡ length u
  pub tag : get_or u 0 p.tag ≡ p.tag
  pub high : get_or u 1 p.high ≡ p.high
  pub low : get_or u 2 p.low ≡ p.low
  pub short : length u < size_of p
  pub body : keeps p.tag (length_of p) ≡ true → take (length u - 3) buffer ≡ drop 3 u
  pub size : length buffer ≡ 1472

-- nothing, between two fields
pub holds_none : (n : ℕ) (buffer : List ℕ) → length buffer ≡ 1472 → Holds (fresh n) buffer []
holds_none n buffer e = record { past = refl; tag = refl; high = refl; low = refl; short = omega arith; body = λ k. refl; size = e }

-- what is held is no whole field
pub held_cut : {p : Place} {buffer u : List ℕ} → Holds p buffer u → complete u ≡ false
held_cut {p} {buffer} {u} h = go (leb 3 (length u)) refl
  where
    go : (b : Bool) → leb 3 (length u) ≡ b → complete u ≡ false
    go true f =
        let l = leb-true 3 (length u) f in
        let a : get_or u 1 0 ≡ p.high = get_or_default u 1 0 p.high (omega arith) ∙ h.high in
        let b : get_or u 2 0 ≡ p.low = get_or_default u 2 0 p.low (omega arith) ∙ h.low in
        let k = h.short in
        is_cut u (omega arith)
    go false f = let l = leb-false 3 (length u) f in is_cut u (omega arith)

-- reading goes on with the byte at k: in what was read, or in the piece
head_is : (k past old : ℕ) (u t : List ℕ) → past ≡ length u → get_or u k old ≡ old → head_byte k past old t ≡ get_or (u ++ t) k old
head_is k past old u t e g = go (ltb k (length u)) refl
  where
    go : (b : Bool) → ltb k (length u) ≡ b → head_byte k past old t ≡ get_or (u ++ t) k old
    go true f =
        let h : k < length u = ltb-true k (length u) f in
        head_old k past old t (omega arith) ∙ sym (get_or-append u t old k h ∙ g)
    go false f =
        let h : length u ≤ k = ltb-false k (length u) f in
        head_new k past old t (omega arith) ∙ rw e (sym (get_or-append_right u t k old h))

-- what stands for an element that is not there may be the answer itself
get_twice : (l : List ℕ) (k d : ℕ) → get_or l k (get_or l k d) ≡ get_or l k d
get_twice [] k d = refl
get_twice (x ∷ l) zero d = refl
get_twice (x ∷ l) (suc k) d = get_twice l k d

-- parts of a list
drop_append : (k : ℕ) (u x : List ℕ) → drop k (u ++ x) ≡ drop k u ++ drop (k - length u) x
drop_append zero u x = let e : 0 - length u ≡ 0 = omega arith in rw e
drop_append (suc k) [] x = let e : suc k - 0 ≡ suc k = omega arith in rw e
drop_append (suc k) (y ∷ u) x = let e : suc k - suc (length u) ≡ k - length u = omega arith in rw e (drop_append k u x)

drop-take : (h n : ℕ) (t : List ℕ) → drop h (take n t) ≡ take (n - h) (drop h t)
drop-take zero n t = let e : n - 0 ≡ n = omega arith in rw e
drop-take (suc h) zero t = let e : 0 - suc h ≡ 0 = omega arith in rw e
drop-take (suc h) (suc n) [] = sym (take-nil (suc n - suc h))
drop-take (suc h) (suc n) (x ∷ t) = let e : suc n - suc h ≡ n - h = omega arith in rw e (drop-take h n t)

pub take-over : (l : List ℕ) (at : ℕ) (bs : List ℕ) → at ≤ length l → take (at + length bs) (over l at bs) ≡ take at l ++ bs
take-over l at bs h =
    let n : length (take at l ++ bs) ≡ at + length bs = rw (length-append (take at l) bs, length-take-le at l h) in
    take_at (take at l ++ bs) (drop (at + length bs) l) (at + length bs) n

verdict_as : {a a' n n' : ℕ} {b b' : List ℕ} → a ≡ a' → n ≡ n' → b ≡ b' → verdict a n b ≡ verdict a' n' b'
verdict_as x y z = rw (x, y, z)

pick_as : (b : Bool) {x y : List ℕ} → (b ≡ true → x ≡ y) → pick b x [] ≡ pick b y []
pick_as true f = f refl
pick_as false f = refl

finding_as : {a a' n n' : ℕ} {f f' : Result Found RecordError} {b b' : List ℕ} → a ≡ a' → n ≡ n' → f ≡ f' → b ≡ b'
    → ◌≡◌ {A = List Finding} (record { tag = a; size = n; found = f; body = b } ∷ []) (record { tag = a'; size = n'; found = f'; body = b' } ∷ [])
finding_as x y z w = rw (x, y, z, w)

fits-room : (l : List ℕ) (at n : ℕ) → fits l at n ≡ true → at + n ≤ length l
unfolding fits
fits-room l at n e = leb-true (at + n) (length l) e

-- a call on the piece t, u being held
module _ (p : Place) (buffer u t : List ℕ) (h : Holds p buffer u) where
  placed : place_of p t ≡ headed_of p t
  unfolding place_of
  placed = let a = h.short in let e = h.past in ap (λ (x : Place). headed_of x t) (sound_same p (omega arith))

  q_past : (headed_of p t).past ≡ length u
  unfolding headed_of
  q_past = h.past

  q_tag : (headed_of p t).tag ≡ get_or (u ++ t) 0 p.tag
  unfolding headed_of
  q_tag = head_is 0 p.past p.tag u t h.past h.tag

  q_high : (headed_of p t).high ≡ get_or (u ++ t) 1 p.high
  unfolding headed_of
  q_high = head_is 1 p.past p.high u t h.past h.high

  q_low : (headed_of p t).low ≡ get_or (u ++ t) 2 p.low
  unfolding headed_of
  q_low = head_is 2 p.past p.low u t h.past h.low

  q_skipped : (headed_of p t).skipped ≡ p.skipped
  unfolding headed_of
  q_skipped = refl

  -- tag and length were read before: the piece does not change them
  module _ (l : 3 ≤ length u) where
    same_tag : (headed_of p t).tag ≡ p.tag
    same_tag = q_tag ∙ get_or-append u t p.tag 0 (omega arith) ∙ h.tag

    same_length : length_of (headed_of p t) ≡ length_of p
    same_length =
        rw (q_high ∙ get_or-append u t p.high 1 (omega arith) ∙ h.high, q_low ∙ get_or-append u t p.low 2 (omega arith) ∙ h.low)

  -- they are there now
  module _ (l : 3 ≤ length (u ++ t)) where
    now-tag : (headed_of p t).tag ≡ get_or (u ++ t) 0 0
    now-tag = q_tag ∙ get_or_default (u ++ t) 0 p.tag 0 (omega arith)

    now-length : length_of (headed_of p t) ≡ length_in (u ++ t)
    now-length =
        rw (q_high ∙ get_or_default (u ++ t) 1 p.high 0 (omega arith), q_low ∙ get_or_default (u ++ t) 2 p.low 0 (omega arith))

  still_short : length u < size_of (headed_of p t)
  still_short = go (leb 3 (length u)) refl
    where
      go : (b : Bool) → leb 3 (length u) ≡ b → length u < size_of (headed_of p t)
      go true f = let k = h.short in omega (arith, same_length (leb-true 3 (length u) f))
      go false f = let k = leb-false 3 (length u) f in omega arith

  -- what was kept before, by the length that is known now
  kept_before : keeps (headed_of p t).tag (length_of (headed_of p t)) ≡ true → take (length u - 3) buffer ≡ drop 3 u
  kept_before k = go (leb 3 (length u)) refl
    where
      go : (b : Bool) → leb 3 (length u) ≡ b → take (length u - 3) buffer ≡ drop 3 u
      go true f = let l = leb-true 3 (length u) f in h.body (rw (same_tag l, same_length l) at k)
      go false f =
          let l = leb-false 3 (length u) f in
          let z : length u - 3 ≡ 0 = omega arith in
          let y : length u ≤ 3 = omega arith in
          rw (z, drop_of_length-le u y)

  -- the body's bytes of the piece, after those that were kept before
  part_is_drop : {n : ℕ} → n ≡ used_of (headed_of p t) (length t) → part_of (headed_of p t) t ≡ drop (3 - length u) (take n t)
  unfolding part_of
  part_is_drop {n} e = rw (← e, q_past) (sym (drop-take (3 - length u) n t))

  module _ {n : ℕ} (e : n ≡ used_of (headed_of p t) (length t)) (m : n ≤ length t) (r : length u + n ≤ size_of (headed_of p t))
      (k : keeps (headed_of p t).tag (length_of (headed_of p t)) ≡ true) where
    grown : drop 3 (u ++ take n t) ≡ drop 3 u ++ part_of (headed_of p t) t
    grown = rw (part_is_drop e) (drop_append 3 u (take n t))

    ends_at : length u - 3 + length (part_of (headed_of p t) t) ≡ length u + n - 3
    ends_at =
        let a : length (drop 3 (u ++ take n t)) ≡ length u + n - 3
        = length-drop 3 (u ++ take n t) ∙ rw (length-append u (take n t), length-take-le n t m) in
        let b : length (drop 3 (u ++ take n t)) ≡ length u - 3 + length (part_of (headed_of p t) t)
        = ap length grown ∙ rw (length-append (drop 3 u) (part_of (headed_of p t) t), length-drop 3 u) in
        sym b ∙ a

    room : length u - 3 + length (part_of (headed_of p t) t) ≤ length buffer
    room =
        let s = keeps_short (headed_of p t).tag (length_of (headed_of p t)) k in
        let z = h.size in
        let a = ends_at in
        omega arith

    laid-over : kept_of p buffer t ≡ over buffer (length u - 3) (part_of (headed_of p t) t)
    unfolding kept_of buffer_of
    laid-over =
        let d = q_past in
        let a = room in
        let b : (headed_of p t).past - 3 ≡ length u - 3 = omega arith in
        let f : (headed_of p t).past - 3 + length (part_of (headed_of p t) t) ≤ length buffer = omega arith in
        let g : buffer_of (headed_of p t) buffer t ≡ over buffer ((headed_of p t).past - 3) (part_of (headed_of p t) t)
        = simp (k, has_room_lem buffer ((headed_of p t).past - 3) (length (part_of (headed_of p t) t)) f) in
        ap (λ (x : Place). buffer_of x buffer t) placed ∙ g ∙ ap (λ (n : ℕ). over buffer n (part_of (headed_of p t) t)) b

    kept_on : take (length u + n - 3) (kept_of p buffer t) ≡ drop 3 (u ++ take n t)
    kept_on =
        rw (laid-over, ← ends_at)
        (take-over buffer (length u - 3) (part_of (headed_of p t) t) (omega (arith, room)) ∙ rw (kept_before k) (sym grown))

  kept_length : length (kept_of p buffer t) ≡ length buffer
  unfolding kept_of buffer_of
  kept_length = rw placed (go (keeps (headed_of p t).tag (length_of (headed_of p t))) (fits buffer ((headed_of p t).past - 3) (length (part_of (headed_of p t) t))) refl)
    where
      go : (a b : Bool) → fits buffer ((headed_of p t).past - 3) (length (part_of (headed_of p t) t)) ≡ b
          → length (pick (a && b) (over buffer ((headed_of p t).past - 3) (part_of (headed_of p t) t)) buffer) ≡ length buffer
      go false b f = refl
      go true false f = refl
      go true true f = length_over buffer ((headed_of p t).past - 3) (part_of (headed_of p t) t) (fits-room buffer _ _ f)

-- the piece ends inside the field
pub record Went (p : Place) (buffer u t : List ℕ) : Type 0 where
  pub seen : (next_of p buffer t).seen ≡ None
  pub used : (next_of p buffer t).used ≡ length t
  pub holds : Holds (next_of p buffer t).place (kept_of p buffer t) (u ++ t)
  pub skipped : (next_of p buffer t).place.skipped ≡ p.skipped

module _ (p : Place) (buffer u t : List ℕ) (h : Holds p buffer u) (c : complete (u ++ t) ≡ false) where
  s_short : length (u ++ t) < size_of (headed_of p t)
  s_short = go (leb 3 (length (u ++ t))) refl
    where
      go : (b : Bool) → leb 3 (length (u ++ t)) ≡ b → length (u ++ t) < size_of (headed_of p t)
      go true f = let k = not_yet (u ++ t) c in omega (arith, now-length p buffer u t h (leb-true 3 (length (u ++ t)) f))
      go false f = let k = leb-false 3 (length (u ++ t)) f in omega arith

  uses_all : length t ≡ used_of (headed_of p t) (length t)
  uses_all =
      let a = s_short in
      let b = length-append u t in
      let d = q_past p buffer u t h in
      used_all (headed_of p t) (length t) (omega arith)

  goes_on : next_of p buffer t ≡ more_of (headed_of p t) (length t)
  unfolding next_of
  goes_on =
      let a = s_short in
      let b = length-append u t in
      let d = q_past p buffer u t h in
      rw (placed p buffer u t h, ← uses_all) (ends_more (headed_of p t) (length t) _ (omega arith))

  pub went : Went p buffer u t
  went =
      let b = length-append u t in
      let a = s_short in
      let e : take (length t) t ≡ t = take_all (length t) t (omega arith) in
      let g : Holds (moved_of (headed_of p t) (length t)) (kept_of p buffer t) (u ++ t) = record {
        past = rw (q_past p buffer u t h) (sym b);
        tag = rw (q_tag p buffer u t h) (get_twice (u ++ t) 0 p.tag);
        high = rw (q_high p buffer u t h) (get_twice (u ++ t) 1 p.high);
        low = rw (q_low p buffer u t h) (get_twice (u ++ t) 2 p.low);
        short = a;
        body = λ k.
            rw (b) (rw e at (kept_on p buffer u t h uses_all (omega arith) (omega arith) k));
        size = kept_length p buffer u t h ∙ h.size;
      } in
      record {
        seen = rw goes_on;
        used = rw goes_on;
        holds = rw goes_on g;
        skipped = rw goes_on (q_skipped p buffer u t h);
      }

-- the field ends within the piece
pub record Ended (p : Place) (buffer u t : List ℕ) : Type 0 where
  pub seen : noted (next_of p buffer t).seen (kept_of p buffer t) ≡ finding_of (first (u ++ t)) ∷ []
  pub rest : drop (next_of p buffer t).used t ≡ drop (size_in (u ++ t)) (u ++ t)
  pub some : 1 ≤ (next_of p buffer t).used
  pub place : (next_of p buffer t).place ≡ fresh (counted (finding_of (first (u ++ t))).found p.skipped)
  pub holds : Holds (next_of p buffer t).place (kept_of p buffer t) []

module _ (p : Place) (buffer u t : List ℕ) (h : Holds p buffer u) (c : complete (u ++ t) ≡ true) where
  long : 3 ≤ length (u ++ t)
  long = let a = there (u ++ t) c in omega arith

  size_is : size_of (headed_of p t) ≡ size_in (u ++ t)
  size_is = rw (now-length p buffer u t h long)

  within : (length u < size_in (u ++ t)) × (size_in (u ++ t) ≤ length u + length t)
  within =
      let a = there (u ++ t) c in
      let b = length-append u t in
      let d = still_short p buffer u t h in
      let e = size_is in
      (omega arith, omega arith)

  uses : size_in (u ++ t) - length u ≡ used_of (headed_of p t) (length t)
  uses =
      let a = within.1 in
      let d = q_past p buffer u t h in
      let e = size_is in
      omega (arith, used_rest (headed_of p t) (length t) (omega arith))

  finishes : next_of p buffer t ≡ done_of (headed_of p t) (size_in (u ++ t) - length u) (found_of (headed_of p t) (kept_of p buffer t))
  unfolding next_of kept_of
  finishes =
      let a = within.0 in
      let d = q_past p buffer u t h in
      let e = size_is in
      rw (placed p buffer u t h, ← uses) (ends_done (headed_of p t) (size_in (u ++ t) - length u) _ (omega arith))

  -- what is kept of the body is the body
  front : keeps (headed_of p t).tag (length_of (headed_of p t)) ≡ true → take (length_in (u ++ t)) (kept_of p buffer t) ≡ (first (u ++ t)).body
  front k =
      let a = within.0 in
      let b = within.1 in
      let e = size_is in
      let i : length u + (size_in (u ++ t) - length u) ≡ size_in (u ++ t) = omega arith in
      let j : length u + (size_in (u ++ t) - length u) - 3 ≡ length_in (u ++ t) = omega arith in
      let w = kept_on p buffer u t h uses (omega arith) (omega arith) k in
      let v : u ++ take (size_in (u ++ t) - length u) t ≡ take (size_in (u ++ t)) (u ++ t)
      = sym (ap (λ (x : ℕ). take x (u ++ t)) (sym i) ∙ take-append-add u t (size_in (u ++ t) - length u)) in
      let x : drop 3 (take (size_in (u ++ t)) (u ++ t)) ≡ take (size_in (u ++ t) - 3) (drop 3 (u ++ t)) = drop-take 3 (size_in (u ++ t)) (u ++ t) in
      let y : size_in (u ++ t) - 3 ≡ length_in (u ++ t) = omega arith in
      ap (λ (x : ℕ). take x (kept_of p buffer t)) (sym j) ∙ w ∙ ap (drop 3) v ∙ x ∙ ap (λ (x : ℕ). take x (drop 3 (u ++ t))) y

  part_front : keeps (headed_of p t).tag (length_of (headed_of p t)) ≡ true
      → bytes_at (kept_of p buffer t) 0 (length_of (headed_of p t)) ≡ take (length_in (u ++ t)) (kept_of p buffer t)
  unfolding bytes_at
  part_front k =
      let s = keeps_short (headed_of p t).tag (length_of (headed_of p t)) k in
      let z = h.size in
      let l = kept_length p buffer u t h in
      rw (has_room_lem (kept_of p buffer t) 0 (length_of (headed_of p t)) (omega arith), now-length p buffer u t h long)

  found_is : found_of (headed_of p t) (kept_of p buffer t) ≡ verdict (get_or (u ++ t) 0 0) (length_in (u ++ t)) (first (u ++ t)).body
  unfolding found_of
  found_is = go (keeps (headed_of p t).tag (length_of (headed_of p t))) refl
    where
      go : (b : Bool) → keeps (headed_of p t).tag (length_of (headed_of p t)) ≡ b
          → verdict (headed_of p t).tag (length_of (headed_of p t)) (bytes_at (kept_of p buffer t) 0 (length_of (headed_of p t)))
          ≡ verdict (get_or (u ++ t) 0 0) (length_in (u ++ t)) (first (u ++ t)).body
      go true k = verdict_as (now-tag p buffer u t h long) (now-length p buffer u t h long) (part_front k ∙ front k)
      go false k =
          unkept (headed_of p t).tag (length_of (headed_of p t)) k _ (first (u ++ t)).body
          ∙ verdict_as (now-tag p buffer u t h long) (now-length p buffer u t h long) refl

  kept_is : pick (keeps (headed_of p t).tag (length_of (headed_of p t))) (take (length_of (headed_of p t)) (kept_of p buffer t)) []
      ≡ pick (keeps (get_or (u ++ t) 0 0) (length_in (u ++ t))) (first (u ++ t)).body []
  kept_is = go (keeps (headed_of p t).tag (length_of (headed_of p t))) refl
    where
      go : (b : Bool) → keeps (headed_of p t).tag (length_of (headed_of p t)) ≡ b
          → pick (keeps (headed_of p t).tag (length_of (headed_of p t))) (take (length_of (headed_of p t)) (kept_of p buffer t)) []
          ≡ pick (keeps (get_or (u ++ t) 0 0) (length_in (u ++ t))) (first (u ++ t)).body []
      go b k =
          let l = now-length p buffer u t h long in
          let j : keeps (get_or (u ++ t) 0 0) (length_in (u ++ t)) ≡ b = rw (now-tag p buffer u t h long, l) at k in
          rw (k, j) (pick_as b (λ e. ap (λ (x : ℕ). take x (kept_of p buffer t)) l ∙ front (k ∙ e)))

  pub ended : Ended p buffer u t
  ended =
      let a = within.0 in
      let b = within.1 in
      let l = body-length (u ++ t) c in
      let i : length u + (size_in (u ++ t) - length u) ≡ size_in (u ++ t) = omega arith in
      let f : found_of (headed_of p t) (kept_of p buffer t) ≡ (finding_of (first (u ++ t))).found = found_is ∙ verdict_as refl (sym l) refl in
      let g : fresh (counted (found_of (headed_of p t) (kept_of p buffer t)) (headed_of p t).skipped)
      ≡ fresh (counted (finding_of (first (u ++ t))).found p.skipped)
      = rw (f, q_skipped p buffer u t h) in
      record {
        seen = rw finishes (finding_as (now-tag p buffer u t h long) (now-length p buffer u t h long ∙ sym l) f
            (kept_is ∙ ap (λ (x : ℕ). pick (keeps (get_or (u ++ t) 0 0) x) (first (u ++ t)).body []) (sym l)));
        rest = rw finishes (sym (ap (λ (x : ℕ). drop x (u ++ t)) (sym i) ∙ drop-append-add u t (size_in (u ++ t) - length u)));
        some = rw finishes (omega arith);
        place = rw finishes g;
        holds = rw finishes (holds_none _ (kept_of p buffer t) (kept_length p buffer u t h ∙ h.size));
      }
