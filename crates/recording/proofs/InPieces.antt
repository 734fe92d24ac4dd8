-- A file in pieces, cut anywhere, is told as the whole. Assumes nothing.
use Prim.Native.Nat.{ℕ, zero, suc, ◌+◌, ◌≤◌, min}
use mathlib.Core.Path.{◌≡◌, refl, sym, ◌∙◌, ap}
use mathlib.Core.Bool.{Bool, true, false}
use mathlib.Core.List.{List, [], ◌∷◌, ◌++◌, append_assoc, append-nil}
use native.Mathlib.Omega.{arith}
use lib.ListN.{length, drop, length-drop}
use lib.Seq.{drop-length}
use lib.Dec.{eqb}
use borrow.Author.Tests.{eqb-true}
use Rattle.codec.proofs.Opened.{never}
use Rattle.recording.specs.File.{complete, first, left_of, finding_of, findings_of, listing_of, end_of, skip_bit, skips}
use Rattle.recording.specs.Pieces.{fresh, next_of, kept_of, finish_of}
use Rattle.recording.specs.Calls.{Ran, none, before, noted, on_piece, on_pieces, in_pieces, join}
use Rattle.recording.specs.declared.pieces.Place.{Place}
use Rattle.recording.proofs.PlaceLaws.{sound_same}
use Rattle.recording.proofs.FileLaws.{left_more, left_end, left_append, findings_more, findings_end, findings_append, skips_append}
use Rattle.recording.proofs.HeldLaws.{Holds, holds_none, went, ended, held_cut}

-- after calls from a place that held some bytes and had counted k: all of s, those bytes first, was read
pub record Read (r : Ran) (s : List ℕ) (k : ℕ) : Type 0 where
  pub findings : r.findings ≡ findings_of s
  pub holds : Holds r.place r.buffer (left_of s)
  pub skipped : r.place.skipped ≡ min (k + skips (findings_of s)) 4294967295

read_none : {p : Place} {buffer u : List ℕ} → Holds p buffer u → p.skipped ≤ 4294967295 → Read (none p buffer) u p.skipped
read_none {p} {buffer} {u} h m =
    let c = held_cut h in
    record { findings = sym (findings_end u c); holds = rw (left_end u c) h; skipped = rw (findings_end u c) (omega arith) }

-- a call, then the calls on the rest
module _ (p : Place) (buffer u t : List ℕ) (h : Holds p buffer u) (m : p.skipped ≤ 4294967295) (r : Ran) where
  read_more : complete (u ++ t) ≡ true → Read r (drop (next_of p buffer t).used t) (next_of p buffer t).place.skipped
      → Read (before (noted (next_of p buffer t).seen (kept_of p buffer t)) r) (u ++ t) p.skipped
  read_more c d =
      let e = ended p buffer u t h c in
      let f = findings_more (u ++ t) c in
      let k : (next_of p buffer t).place.skipped ≡ min (p.skipped + skip_bit (finding_of (first (u ++ t))).found) 4294967295
      = ap (λ (x : Place). x.skipped) e.place in
      let g = d.skipped in
      record {
        findings = rw (e.seen, d.findings, e.rest, f);
        holds = rw (left_more (u ++ t) c, ← e.rest) d.holds;
        skipped = rw (f, ← e.rest) (omega (arith, k, g));
      }

  read_on : complete (u ++ t) ≡ false → Read r ((u ++ t) ++ drop (next_of p buffer t).used t) (next_of p buffer t).place.skipped
      → Read (before (noted (next_of p buffer t).seen (kept_of p buffer t)) r) (u ++ t) p.skipped
  read_on c d =
      let e = went p buffer u t h c in
      let z : (u ++ t) ++ drop (next_of p buffer t).used t ≡ u ++ t = rw (e.used, drop-length t) (append-nil (u ++ t)) in
      let w : Read r (u ++ t) p.skipped = rw (z, e.skipped) at d in
      rw e.seen w

read_end : {p : Place} {buffer u : List ℕ} (t : List ℕ) → Holds p buffer u → p.skipped ≤ 4294967295 → length t ≡ 0 → Read (none p buffer) (u ++ t) p.skipped
read_end {p} {buffer} {u} [] h m e = rw (append-nil u) (read_none h m)
read_end (x ∷ t) h m e = let z : ◌≡◌ {A = ℕ} 0 1 = omega arith in never z

-- n calls do for n bytes
abbrev Does : ℕ → Type 0
Does n = (p : Place) (buffer u t : List ℕ) → Holds p buffer u → p.skipped ≤ 4294967295 → length t ≤ n → Read (on_piece n p buffer t) (u ++ t) p.skipped

call_read : (n : ℕ) → Does n → (p : Place) (buffer u t : List ℕ) → Holds p buffer u → p.skipped ≤ 4294967295 → length t ≤ suc n
    → (b : Bool) → complete (u ++ t) ≡ b
    → Read (before (noted (next_of p buffer t).seen (kept_of p buffer t))
    (on_piece n (next_of p buffer t).place (kept_of p buffer t) (drop (next_of p buffer t).used t))) (u ++ t) p.skipped
call_read n ih p buffer u t h m l true c =
    let e = ended p buffer u t h c in
    let some = e.some in
    let k : (next_of p buffer t).place.skipped ≤ 4294967295
    = omega (arith, ap (λ (x : Place). x.skipped) e.place) in
    let f : length (drop (next_of p buffer t).used t) ≤ n = rw (length-drop (next_of p buffer t).used t) (omega arith) in
    read_more p buffer u t h m _ c (ih (next_of p buffer t).place (kept_of p buffer t) [] (drop (next_of p buffer t).used t) e.holds k f)
call_read n ih p buffer u t h m l false c =
    let e = went p buffer u t h c in
    let a = e.used in
    let k : (next_of p buffer t).place.skipped ≤ 4294967295 = omega (arith, e.skipped) in
    let f : length (drop (next_of p buffer t).used t) ≤ n = rw (length-drop (next_of p buffer t).used t) (omega arith) in
    read_on p buffer u t h m _ c (ih (next_of p buffer t).place (kept_of p buffer t) (u ++ t) (drop (next_of p buffer t).used t) e.holds k f)

turn_read : (n : ℕ) → Does n → (p : Place) (buffer u t : List ℕ) → Holds p buffer u → p.skipped ≤ 4294967295 → length t ≤ suc n
    → (b : Bool) → eqb (length t) 0 ≡ b → Read (on_piece (suc n) p buffer t) (u ++ t) p.skipped
unfolding on_piece
turn_read n ih p buffer u t h m l true e = rw e (read_end t h m (eqb-true (length t) 0 e))
turn_read n ih p buffer u t h m l false e = rw e (call_read n ih p buffer u t h m l (complete (u ++ t)) refl)

pub piece_read : (n : ℕ) → Does n
unfolding on_piece
piece_read zero p buffer u t h m l = read_end t h m (omega arith)
piece_read (suc n) p buffer u t h m l = turn_read n (piece_read n) p buffer u t h m l (eqb (length t) 0) refl

pub pieces_read : (p : Place) (buffer u : List ℕ) (ts : List (List ℕ)) → Holds p buffer u → p.skipped ≤ 4294967295
    → Read (on_pieces p buffer ts) (u ++ join ts) p.skipped
unfolding on_pieces
pieces_read p buffer u [] h m = read_end [] h m refl
pieces_read p buffer u (t ∷ ts) h m =
    let a = piece_read (length t) p buffer u t h m (omega arith) in
    let k : (on_piece (length t) p buffer t).place.skipped ≤ 4294967295 = omega (arith, a.skipped) in
    let b = pieces_read (on_piece (length t) p buffer t).place (on_piece (length t) p buffer t).buffer (left_of (u ++ t)) ts a.holds k in
    let f = findings_append (u ++ t) (join ts) in
    let g = skips_append (findings_of (u ++ t)) (findings_of (left_of (u ++ t) ++ join ts)) in
    let x = a.skipped in
    let y = b.skipped in
    rw (← append_assoc u t (join ts)) record {
      findings = rw (a.findings, b.findings, f);
      holds = rw (left_append (u ++ t) (join ts)) b.holds;
      skipped = rw (f, g) (omega arith);
    }

-- THE THEOREM: however a file is cut, and whatever the buffer held, the calls tell what the file as a whole tells
finish_is : {p : Place} {buffer u : List ℕ} → Holds p buffer u → finish_of p ≡ end_of (length u)
unfolding finish_of
finish_is {p} h =
    let a = h.past in
    let b = h.short in
    rw (sound_same p (omega arith), h.past)

pub in-pieces : (buffer : List ℕ) (ts : List (List ℕ)) → length buffer ≡ 1472 → in_pieces buffer ts ≡ listing_of (join ts)
unfolding listing_of
in-pieces buffer ts e =
    let r = pieces_read (fresh 0) buffer [] ts (holds_none 0 buffer e) (omega arith) in
    let z : 0 + skips (findings_of (join ts)) ≡ skips (findings_of (join ts)) = omega arith in
    rw (r.findings, finish_is r.holds, r.skipped, z)

-- so any two ways of cutting a file tell the same
pub cut_anywhere : (a b : List ℕ) (ts us : List (List ℕ)) → length a ≡ 1472 → length b ≡ 1472 → join ts ≡ join us → in_pieces a ts ≡ in_pieces b us
cut_anywhere a b ts us m n e = in-pieces a ts m ∙ ap listing_of e ∙ sym (in-pieces b us n)
