-- A file that is mended in pieces, cut anywhere, gives the copy of the whole. Assumes nothing.
use Prim.Native.Nat.{ℕ, zero, suc, ◌+◌, ◌-◌, ◌≤◌}
use mathlib.Core.Path.{◌≡◌, refl, sym, ◌∙◌, ap}
use mathlib.Core.Bool.{Bool, true, false}
use mathlib.Core.List.{List, [], ◌∷◌, ◌++◌, append_assoc, append-nil}
use native.Mathlib.Omega.{arith}
use lib.ListN.{length, take, drop, length-take, length-drop, length-append}
use lib.Seq.{length-take-le, take_all, take-append-add, drop-length}
use lib.Dec.{eqb}
use borrow.Author.Tests.{eqb-true}
use Rattle.codec.specs.Choice.{pick}
use Rattle.codec.proofs.Opened.{never}
use Rattle.recording.specs.File.{Finding, keeps, size_in, complete, first, left_of, finding_of}
use Rattle.recording.specs.Pieces.{fresh, sound_of, next_of, kept_of}
use Rattle.recording.specs.Calls.{noted, join}
use Rattle.recording.specs.declared.pieces.Place.{Place}
use Rattle.std.specs.Prelude.{Option, Some, None}
use Rattle.recording.specs.declared.field.Field.{Field}
use Rattle.recording.proofs.PlaceLaws.{sound_same, used_is, uses_most}
use Rattle.recording.proofs.FileLaws.{there, body-length, left_more, left_end, left_append}
use Rattle.recording.proofs.HeldLaws.{Holds, holds_none, held_cut, take-over, went, ended}
use Rattle.mending.specs.Copy.{stays, copy_of}
use Rattle.mending.specs.Calls.{held_of, kept_in, kept_seen, Copied, none, behind, copy_piece, copy_pieces, mended_by}
use Rattle.mending.proofs.CopyLaws.{front_kept, copy_more, copy_end, copy_append}

-- a call that found a field has its bytes, or none of them, as the finding says
found_kept : (x : Option Field) (buffer hold : List ℕ) (g : Finding) → noted x buffer ≡ g ∷ []
    → kept_seen x hold ≡ pick (stays g.found) (take (3 + g.size) hold) []
unfolding kept_in
found_kept (Some f) buffer hold g e =
    let q : ◌≡◌ {A = Finding} (record { tag = f.tag; size = f.length; found = f.found; body = pick (keeps f.tag f.length) (take f.length buffer) [] }) g = cc in
    ap (λ (k : Finding). pick (stays k.found) (take (3 + k.size) hold) []) q
found_kept None buffer hold g e = never (cc)

-- one call, u being read and held
module _ (p : Place) (buffer hold u t : List ℕ) (h : Holds p buffer u) (k : take (length u) hold ≡ u) where
  abbrev used : ℕ
  used = (next_of p buffer t).used

  grown : take (length u + length (take used t)) (held_of p hold t) ≡ u ++ take used t
  unfolding held_of
  grown =
      let a = h.past in
      let b = h.short in
      let e : length (take (length u) hold) ≡ length u = ap length k in
      let r : length u ≤ length hold = omega (arith, length-take (length u) hold) in
      let q : (sound_of p).past ≡ length u = ap (λ (x : Place). x.past) (sound_same p (omega arith)) ∙ a in
      rw (q, ← used_is p buffer t) (take-over hold (length u) (take used t) r ∙ rw k)

  held_on : complete (u ++ t) ≡ false → take (length (u ++ t)) (held_of p hold t) ≡ u ++ t
  held_on c =
      let e : take used t ≡ t = take_all used t (omega (arith, (went p buffer u t h c).used)) in
      rw (length-append u t) (rw e at grown)

  kept_now : complete (u ++ t) ≡ true → kept_seen (next_of p buffer t).seen (held_of p hold t) ≡ front_kept (u ++ t)
  kept_now c =
      let d = ended p buffer u t h c in
      let l = body-length (u ++ t) c in
      let m = uses_most p buffer t in
      let w = there (u ++ t) c in
      let a : length t - used ≡ length (u ++ t) - size_in (u ++ t) = sym (length-drop used t) ∙ ap length d.rest ∙ length-drop (size_in (u ++ t)) (u ++ t) in
      let i : length u + used ≡ size_in (u ++ t) = omega (arith, length-append u t) in
      let n : length (take used t) ≡ used = length-take-le used t m in
      let f : take (size_in (u ++ t)) (held_of p hold t) ≡ take (size_in (u ++ t)) (u ++ t) = rw (← i) (rw n at grown ∙ sym (take-append-add u t used)) in
      found_kept (next_of p buffer t).seen (kept_of p buffer t) (held_of p hold t) (finding_of (first (u ++ t))) d.seen ∙ rw (l, f)

-- after calls from a place that held some bytes: all of s, those bytes first, was read
record Made (r : Copied) (s : List ℕ) : Type 0 where
  copy : r.copy ≡ copy_of s
  holds : Holds r.place r.buffer (left_of s)
  held : take (length (left_of s)) r.hold ≡ left_of s

made_end : {p : Place} {buffer hold u : List ℕ} (t : List ℕ) → Holds p buffer u → take (length u) hold ≡ u → length t ≡ 0 → Made (none p buffer hold) (u ++ t)
made_end {p} {buffer} {hold} {u} [] h k e =
    let c = held_cut h in
    rw (append-nil u) record { copy = sym (copy_end u c); holds = rw (left_end u c) h; held = rw (left_end u c) k }
made_end (x ∷ t) h k e = let z : ◌≡◌ {A = ℕ} 0 1 = omega arith in never z

-- n calls do for n bytes
abbrev Does : ℕ → Type 0
Does n = (p : Place) (buffer hold u t : List ℕ) → Holds p buffer u → take (length u) hold ≡ u → length t ≤ n → Made (copy_piece n p buffer hold t) (u ++ t)

module _ (n : ℕ) (ih : Does n) (p : Place) (buffer hold u t : List ℕ) (h : Holds p buffer u) (k : take (length u) hold ≡ u) (l : length t ≤ suc n) where
  abbrev rest : List ℕ
  rest = drop (next_of p buffer t).used t

  abbrev then : Copied
  then = copy_piece n (next_of p buffer t).place (kept_of p buffer t) (held_of p hold t) rest

  abbrev Called : Type 0
  Called = Made (behind (kept_seen (next_of p buffer t).seen (held_of p hold t)) then) (u ++ t)

  call_made : (b : Bool) → complete (u ++ t) ≡ b → Called
  call_made true c =
      let e = ended p buffer u t h c in
      let some = e.some in
      let f : length rest ≤ n = rw (length-drop (next_of p buffer t).used t) (omega arith) in
      let d = ih (next_of p buffer t).place (kept_of p buffer t) (held_of p hold t) [] rest e.holds refl f in
      let g : left_of rest ≡ left_of (u ++ t) = ap left_of e.rest ∙ sym (left_more (u ++ t) c) in
      record {
        copy = rw (kept_now p buffer hold u t h k c, d.copy, e.rest) (sym (copy_more (u ++ t) c));
        holds = rw (← g) d.holds;
        held = rw (← g) d.held;
      }
  call_made false c =
      let e = went p buffer u t h c in
      let a = e.used in
      let f : length rest ≤ n = rw (length-drop (next_of p buffer t).used t) (omega arith) in
      let d = ih (next_of p buffer t).place (kept_of p buffer t) (held_of p hold t) (u ++ t) rest e.holds (held_on p buffer hold u t h k c) f in
      let z : (u ++ t) ++ rest ≡ u ++ t = rw (e.used, drop-length t) (append-nil (u ++ t)) in
      let w : Made then (u ++ t) = rw z at d in
      rw e.seen w

  turn_made : (b : Bool) → eqb (length t) 0 ≡ b → Made (copy_piece (suc n) p buffer hold t) (u ++ t)
  unfolding copy_piece
  turn_made true e = rw e (made_end t h k (eqb-true (length t) 0 e))
  turn_made false e = rw e (call_made (complete (u ++ t)) refl)

piece_made : (n : ℕ) → Does n
unfolding copy_piece
piece_made zero p buffer hold u t h k l = made_end t h k (omega arith)
piece_made (suc n) p buffer hold u t h k l = turn_made n (piece_made n) p buffer hold u t h k l (eqb (length t) 0) refl

pieces_made : (p : Place) (buffer hold u : List ℕ) (ts : List (List ℕ)) → Holds p buffer u → take (length u) hold ≡ u
    → Made (copy_pieces p buffer hold ts) (u ++ join ts)
unfolding copy_pieces
pieces_made p buffer hold u [] h k = made_end [] h k refl
pieces_made p buffer hold u (t ∷ ts) h k =
    let r = copy_piece (length t) p buffer hold t in
    let a = piece_made (length t) p buffer hold u t h k (omega arith) in
    let b = pieces_made r.place r.buffer r.hold (left_of (u ++ t)) ts a.holds a.held in
    let g = left_append (u ++ t) (join ts) in
    rw (← append_assoc u t (join ts)) record {
      copy = rw (a.copy, b.copy) (sym (copy_append (join ts) (u ++ t)));
      holds = rw g b.holds;
      held = rw g b.held;
    }

-- however a file is cut, and whatever was held before, what is written is the copy of the whole
pub mended_in_pieces : (buffer hold : List ℕ) (ts : List (List ℕ)) → length buffer ≡ 1472 → mended_by buffer hold ts ≡ copy_of (join ts)
mended_in_pieces buffer hold ts e = (pieces_made (fresh 0) buffer hold [] ts (holds_none 0 buffer e) refl).copy
