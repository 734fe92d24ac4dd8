-- The lines of a file, and that they are the same however it is cut into pieces. Assumes nothing.
use Prim.Native.Nat.{ℕ, zero, suc, ◌+◌}
use mathlib.Core.Path.{◌≡◌, refl, sym, ◌∙◌, ap}
use mathlib.Core.Bool.{Bool, true, false, ◌&&◌}
use mathlib.Core.List.{List, [], ◌∷◌, ◌++◌, append_assoc, append-nil}
use lib.ListN.{length, take, drop}
use lib.Dec.{ltb, leb, eqb}
use borrow.Author.Tests.{le-leb, ltb-false}
use Rattle.codec.specs.Choice.{pick}
use Rattle.codec.specs.Field.{bytes_at}
use Rattle.recording.specs.File.{Finding, Listing, verdict, keeps, frame_found, note_found, start_in, start_found, short_of}
use Rattle.recording.specs.Pieces.{fresh, next_of, kept_of, ends_of, place_of, used_of, buffer_of, size_of, found_of, length_of}
use Rattle.recording.specs.Calls.{noted, on_piece, on_pieces, join}
use Rattle.recording.specs.declared.pieces.Place.{Place}
use Rattle.recording.specs.declared.field.Field.{Field}
use Rattle.recording.proofs.InPieces.{in-pieces}
use Rattle.tape.specs.Start.{after_of, after_all}
use Rattle.std.specs.Prelude.{Option, Some, None}
use Rattle.codec.specs.declared.time.Time.{Time}
use Rattle.listing.specs.Field.{found_lines}
use Rattle.listed.specs.File.{lines_of, end_lines, listed_of, seen_lines, after_seen, piece_lines, pieces_lines, written_of}

-- the lines of a field are those of its own bytes and of the start in force before it
pub lines_split : (m : Option Time) (fs gs : List Finding) → lines_of m (fs ++ gs) ≡ lines_of m fs ++ lines_of (after_all m fs) gs
lines_split m [] gs = refl
lines_split m (f ∷ fs) gs =
    ap (λ xs. found_lines m f.tag f.size f.found f.body ++ xs) (lines_split (after_of m f.found) fs gs)
    ∙ sym (append_assoc (found_lines m f.tag f.size f.found f.body) (lines_of (after_of m f.found) fs) (lines_of (after_all (after_of m f.found) fs) gs))

-- a body that was not kept is not shown either
shown_kept : (m : Option Time) (tag n : ℕ) (b x : List ℕ) → found_lines m tag n (verdict tag n b) (pick (keeps tag n) x []) ≡ found_lines m tag n (verdict tag n b) x
unfolding verdict keeps frame_found note_found start_found short_of
shown_kept m tag n b x = go (eqb tag 1) refl (eqb tag 2) refl (eqb tag 3) refl (ltb 1472 n) refl
  where
    start : (w : Bool) → (eqb n 10 && leb (start_in b).nano 999999999) ≡ w → eqb tag 1 ≡ false → eqb tag 2 ≡ false → eqb tag 3 ≡ true
        → found_lines m tag n (verdict tag n b) (pick (keeps tag n) x []) ≡ found_lines m tag n (verdict tag n b) x
    start true e p q r = simp (p, q, r, e)
    start false e p q r = simp (p, q, r, e)

    go : (a : Bool) → eqb tag 1 ≡ a → (c : Bool) → eqb tag 2 ≡ c → (d : Bool) → eqb tag 3 ≡ d → (l : Bool) → ltb 1472 n ≡ l
        → found_lines m tag n (verdict tag n b) (pick (keeps tag n) x []) ≡ found_lines m tag n (verdict tag n b) x
    go true p c q d r true s = simp (p, s)
    go true p c q d r false s = simp (p, s, le-leb n 1472 (ltb-false 1472 n s))
    go false p true q d r true s = simp (p, q, s)
    go false p true q d r false s = simp (p, q, s, le-leb n 1472 (ltb-false 1472 n s))
    go false p false q true r l s = start (eqb n 10 && leb (start_in b).nano 999999999) refl p q r
    go false p false q false r l s = simp (p, q, r)

-- so what a call saw is written as its finding is listed
module _ (m : Option Time) (p : Place) (buffer piece : List ℕ) where
  abbrev Same : Type 0
  Same = lines_of m (noted (next_of p buffer piece).seen (kept_of p buffer piece)) ≡ seen_lines m (next_of p buffer piece).seen (kept_of p buffer piece)

  seen-lines : Same
  unfolding next_of kept_of ends_of found_of
  seen-lines = go (ltb ((place_of p piece).past + used_of (place_of p piece) (length piece)) (size_of (place_of p piece))) refl
    where
      go : (b : Bool) → ltb ((place_of p piece).past + used_of (place_of p piece) (length piece)) (size_of (place_of p piece)) ≡ b → Same
      go true e = simp e
      go false e =
          let q = place_of p piece in
          let k = buffer_of q buffer piece in
          let b = bytes_at k 0 (length_of q) in
          rw e
          (append-nil (found_lines m q.tag (length_of q) (verdict q.tag (length_of q) b) (pick (keeps q.tag (length_of q)) (take (length_of q) k) []))
          ∙ shown_kept m q.tag (length_of q) b (take (length_of q) k))

after-seen : (m : Option Time) (s : Option Field) (buffer : List ℕ) → after_all m (noted s buffer) ≡ after_seen m s
after-seen m (Some f) buffer = refl
after-seen m None buffer = refl

-- the calls on a piece, and on all pieces
abbrev Lists : ℕ → Type 0
Lists n = (m : Option Time) (p : Place) (buffer piece : List ℕ) → piece_lines n m p buffer piece ≡ lines_of m (on_piece n p buffer piece).findings

piece_more : (n : ℕ) → Lists n → Lists (suc n)
unfolding piece_lines on_piece
piece_more n ih m p buffer piece = go (eqb (length piece) 0) refl
  where
    go : (b : Bool) → eqb (length piece) 0 ≡ b → piece_lines (suc n) m p buffer piece ≡ lines_of m (on_piece (suc n) p buffer piece).findings
    go true e = simp e
    go false e =
        let s = next_of p buffer piece in
        let k = kept_of p buffer piece in
        let rest = drop s.used piece in
        rw (
          e,
          lines_split m (noted s.seen k) (on_piece n s.place k rest).findings,
          seen-lines m p buffer piece,
          after-seen m s.seen k,
          ih (after_seen m s.seen) s.place k rest,
        )

piece-lines : (n : ℕ) → Lists n
unfolding piece_lines on_piece
piece-lines zero m p buffer piece = refl
piece-lines (suc n) m p buffer piece = piece_more n (piece-lines n) m p buffer piece

pieces-lines : (ts : List (List ℕ)) (m : Option Time) (p : Place) (buffer : List ℕ) → pieces_lines m p buffer ts ≡ lines_of m (on_pieces p buffer ts).findings
unfolding pieces_lines on_pieces
pieces-lines [] m p buffer = refl
pieces-lines (t ∷ ts) m p buffer =
    let r = on_piece (length t) p buffer t in
    rw (
      lines_split m r.findings (on_pieces r.place r.buffer ts).findings,
      piece-lines (length t) m p buffer t,
      pieces-lines ts (after_all m r.findings) r.place r.buffer,
    )

-- however a file is cut, and whatever the buffer held, what is written are the lines of the whole
pub listed_in_pieces : (buffer : List ℕ) (ts : List (List ℕ)) → length buffer ≡ 1472 → written_of buffer ts ≡ listed_of (join ts)
unfolding written_of listed_of
listed_in_pieces buffer ts e =
    rw (pieces-lines ts None (fresh 0) buffer)
    (ap (λ (l : Listing). lines_of None l.findings ++ end_lines l) (in-pieces buffer ts e))
