-- No line of a field is left out where there is room for 65,536 bytes. Assumes nothing.
use Prim.Native.Nat.{ℕ, zero, suc, ◌+◌, ◌-◌, ◌*◌, ◌/◌, ◌%◌, ◌^◌, ◌≤◌, ◌<◌}
use mathlib.Core.Path.{◌≡◌, refl, sym, ◌∙◌}
use mathlib.Core.Bool.{Bool, true, false}
use mathlib.Core.List.{List, [], ◌∷◌, append-nil}
use native.Mathlib.Omega.{arith}
use lib.ListN.{length, take, length-append, length-take}
use lib.Seq.{paste-zero}
use lib.Dec.{leb, eqb}
use lib.IntN.{ℤ, pos, negsuc, nat_abs}
use borrow.Author.Tests.{le-leb, leb-true, leb-false}
use Rattle.codec.specs.Choice.{pick}
use Rattle.codec.specs.Number.{Bytes}
use Rattle.codec.specs.Item.{encode, load_length}
use Rattle.codec.specs.Time.{recovered_of}
use Rattle.codec.specs.Ident.{kind_of}
use Rattle.codec.specs.Field.{read_item, bytes_at}
use Rattle.codec.specs.declared.time.Time.{Time}
use Rattle.codec.specs.declared.item.Item.{Item}
use Rattle.codec.specs.declared.ident.Kind.{Kind}
use Rattle.codec.specs.declared.ident.Ident.{Ident}
use Rattle.codec.specs.declared.header.Header.{Header}
use Rattle.codec.proofs.NumberLaws.{has_room_lem, over-over, length_over}
use Rattle.codec.specs.declared.field.Decoded.{Decoded}
use Rattle.codec.proofs.ItemLaws.{encode-length}
use Rattle.codec.proofs.Inverse.{read_room, item_forth}
use Rattle.codec.proofs.Stands.{bytes_part}
use Rattle.std.specs.Prelude.{Option, Some, None, Result, Ok, Err}
use Rattle.codec.specs.declared.refusal.Refusal.{Refusal}
use Rattle.recording.specs.Error.{number_of}
use Rattle.recording.specs.declared.error.RecordError.{RecordError}
use Rattle.recording.specs.declared.field.Found.{Found}
use Rattle.recording.specs.declared.field.Field.{Field}
use Rattle.tape.specs.Sample.{position_of}
use Rattle.tape.specs.declared.sample.TooFar.{TooFar}
use Rattle.text.specs.Put.{hexes}
use Rattle.text.proofs.PutLaws.{decimal_length, hexes-length}
use Rattle.text.proofs.DraftLaws.{field_length, row_most}
use Rattle.listing.proofs.FixedLaws.{fixed_length}
use Rattle.listing.proofs.SpreadLaws.{pairs-length}
use Rattle.listing.proofs.EscapeLaws.{note_length}
use Rattle.listing.proofs.LinesLaws.{lines_past, lines_bad, lines_item}
use Rattle.listing.specs.Line.{hex_text, time_text, sign_text, signed_text, placed_text, position_text, kind_text, is_fd, bus_text, id_digits, can_text, channels_text, flexray_text, error_text, ident_text, state_text, load_text, bytes_text, place_text, shown_text, front_text, item_line, frame_line, start_line, refused_line, skipped_line, note_fits, note_line, plain, escape_of, spread}
use Rattle.listing.specs.Field.{Text, item_lines, good_lines, found_lines, field_lines, with, with_all, text_of, whole_of}

text_as : {b b' : List ℕ} {a a' : ℕ} → b ≡ b' → a ≡ a' → ◌≡◌ {A = Text} (record { bytes = b; at = a }) (record { bytes = b'; at = a' })
text_as x y = rw (x, y)

-- where all lines find room, they are written one after another
with-room : (t : Text) (line : List ℕ) → t.at + length line ≤ length t.bytes → with t line ≡ whole_of t line
unfolding with
with-room t line h = simp (has_room_lem t.bytes t.at (length line) h)

pub all_room : (lines : List (List ℕ)) (t : Text) → t.at + length (text_of lines) ≤ length t.bytes → with_all t lines ≡ whole_of t (text_of lines)
all_room [] t h = text_as (paste-zero t.bytes t.at []) (omega arith)
all_room (line ∷ lines) t h =
    let n = length-append line (text_of lines) in
    let k : t.at + length line ≤ length t.bytes = omega arith in
    let m = length_over t.bytes t.at line k in
    let i = all_room lines (whole_of t line) (omega arith) in
    rw (with-room t line k) (i ∙ text_as (over-over t.bytes t.at line (text_of lines) k) (omega arith))

-- the lengths of the words
hex_most : (n v : ℕ) → length (hex_text n v) ≡ 1 + n
unfolding hex_text
hex_most n v = let d = fixed_length 16 n v in omega arith

time_most : (t : Time) → length (time_text t) ≤ 31
unfolding time_text
time_most t =
    let a = field_length t.sec in
    let b = fixed_length 10 9 t.nano in
    simp length-append (omega arith)

sign_most : (z : ℤ) → length (sign_text z) ≤ 2
sign_most (pos n) = omega arith
sign_most (negsuc n) = omega arith

placed-most : (p : Result ℤ TooFar) → length (placed_text p) ≤ 22
unfolding signed_text
placed-most (Ok z) =
    let a = sign_most z in
    let b = decimal_length (nat_abs z) in
    simp length-append (omega arith)
placed-most (Err why) = omega arith

position_most : (m : Option Time) (t : Time) → length (position_text m t) ≤ 22
position_most None t = omega arith
position_most (Some start) t = placed-most (position_of start t)

kind_most : (k : Kind) → length (kind_text k) ≤ 8
kind_most Kind.Can = omega arith
kind_most Kind.Lin = omega arith
kind_most Kind.FlexRay = omega arith

pick-most : (b : Bool) (x y : List ℕ) (n : ℕ) → length x ≤ n → length y ≤ n → length (pick b x y) ≤ n
pick-most true x y n h k = h
pick-most false x y n h k = k

bus_most : (id : Ident) → length (bus_text id) ≤ 10
unfolding bus_text
bus_most id =
    let a = kind_most (kind_of id) in
    let b = pick-most (is_fd id) (70 ∷ 68 ∷ []) [] 2 (omega arith) (omega arith) in
    simp length-append (omega arith)

digits_most : (key : ℕ) → id_digits key ≤ 8
unfolding id_digits
digits_most key = go (eqb (key / 2 ^ 31) 1)
  where
    go : (b : Bool) → pick b 8 3 ≤ 8
    go true = omega arith
    go false = omega arith

channels_most : (c : ℕ) → length (channels_text c) ≤ 3
unfolding channels_text
channels_most c =
    let a = pick-most (eqb (c % 2) 1) (65 ∷ []) [] 1 (omega arith) (omega arith) in
    let b = pick-most (eqb (c / 2 % 2) 1) (66 ∷ []) [] 1 (omega arith) (omega arith) in
    simp length-append (omega arith)

ident_most : (id : Ident) → length (ident_text id) ≤ 45
unfolding can_text flexray_text error_text
ident_most (Ident.Can key) =
    let a = hex_most (id_digits key) (key % 2 ^ 29) in
    let b = digits_most key in
    omega arith
ident_most (Ident.Lin pid) = let a = hex_most 2 pid in omega arith
ident_most (Ident.FlexRay c slot cycle) =
    let a = channels_most c in
    let b = decimal_length slot in
    let d = decimal_length cycle in
    simp length-append (omega arith)
ident_most (Ident.FlexRayError c) = let a = channels_most c in simp length-append (omega arith)
ident_most (Ident.Bare k) = omega arith

state_most : (s : Option ℕ) → length (state_text s) ≤ 3
state_most (Some b) = let a = hex_most 2 b in omega arith
state_most None = omega arith

load_most : (b : Bool) (n : ℕ) → length (load_text b n) ≤ 21
load_most true n = field_length n
load_most false n = omega arith

bytes_most : (bs : List ℕ) → length (bytes_text bs) ≤ 1 + 2 * length bs
bytes_most [] = omega arith
bytes_most (b ∷ bs) = let a = pairs-length (b ∷ bs) in omega arith

pub front_most : (m : Option Time) (t : Time) (it : Item) (n : ℕ) → length (front_text m t it n) ≤ 156
unfolding front_text place_text shown_text
front_most m t it n =
    let a = time_most t in
    let p = position_most m t in
    let b = bus_most it.ident in
    let d = field_length it.network in
    let e = ident_most it.ident in
    let f = state_most it.state in
    let g = load_most it.carries n in
    simp length-append (omega arith)

carried_most : (c : Bool) (bs : List ℕ) → 2 * length (pick c bs []) ≤ 40 * load_length c (length bs)
carried_most true bs = omega arith
carried_most false bs = omega arith

-- an item's line is at most 40 times as long as the item
item_most : (m : Option Time) (t : Time) (it : Item) (bs : List ℕ) → length (item_line m t it bs) ≤ 40 * length (encode it bs)
unfolding item_line
item_most m t it bs =
    let a = front_most m t it (length bs) in
    let b = bytes_most (pick it.carries bs []) in
    let d = encode-length it bs in
    let e = carried_most it.carries bs in
    rw d (simp length-append (omega arith))

-- and so those of all items from a place on
module _ (m : Option Time) (t : Time) (s : List ℕ) (b : Bytes s) where
  items_step : (n at : ℕ) → at < length s → ((next : ℕ) → at < next → length (text_of (item_lines m t s next)) ≤ 40 * (length s - next))
      → (r : Result Decoded Refusal) → read_item s at ≡ r → length (text_of (item_lines m t s at)) ≤ 40 * (length s - at)
  items_step n at h ih (Err why) q = rw (lines_bad m t s at h q) (omega arith)
  items_step n at h ih (Ok d) q =
      let f = item_forth s at b q in
      let e = f.ends in
      let r = read_room s at q in
      let lo = r.0 in
      let hi = r.1 in
      let i = ih d.next (omega arith) in
      let w = item_most m (recovered_of t d.item.offset.0) d.item (bytes_at s d.start d.len) in
      rw (lines_item m t s at h q, length-append (item_line m (recovered_of t d.item.offset.0) d.item (bytes_at s d.start d.len)) (text_of (item_lines m t s d.next))) (omega arith)

  items_most : (n at : ℕ) → length s - at ≤ n → length (text_of (item_lines m t s at)) ≤ 40 * (length s - at)
  items_most zero at h = rw (lines_past m t s at (omega arith)) (omega arith)
  items_most (suc n) at h = go (leb (length s) at) refl (λ next k. items_most n next (omega arith))
    where
      go : (c : Bool) → leb (length s) at ≡ c → ((next : ℕ) → at < next → length (text_of (item_lines m t s next)) ≤ 40 * (length s - next))
          → length (text_of (item_lines m t s at)) ≤ 40 * (length s - at)
      go true e ih = rw (lines_past m t s at (leb-true (length s) at e)) (omega arith)
      go false e ih = items_step n at (leb-false (length s) at e) ih (read_item s at) refl

-- a field's lines together
pub frame_most : (h : Header) → length (frame_line h) ≤ 79
unfolding frame_line
frame_most h =
    let a = field_length h.sequence in
    let b = time_most h.time in
    let d = field_length h.length in
    simp length-append (omega arith)

pub start_most : (t : Time) → length (start_line t) ≤ 37
unfolding start_line
start_most t = let a = time_most t in simp length-append (omega arith)

escape_most : (b : ℕ) → length (escape_of b) ≤ 4
unfolding escape_of
escape_most b =
    let a = hexes-length (b ∷ []) in
    pick-most (plain b) (b ∷ []) (92 ∷ 120 ∷ hexes (b ∷ [])) 4 (omega arith) (omega arith)

spread-most : (bs : List ℕ) → length (spread escape_of bs) ≤ 4 * length bs
spread-most [] = omega arith
spread-most (b ∷ bs) =
    let a = escape_most b in
    let r = spread-most bs in
    rw (length-append (escape_of b) (spread escape_of bs)) (omega arith)

-- so there is room for a note where there is room for four times as many bytes
pub fits_surely : (bs : List ℕ) (room : ℕ) → length bs ≤ room / 4 → true ≡ note_fits bs room
unfolding note_fits
fits_surely bs room h = sym (le-leb (length (spread escape_of bs)) room (omega (arith, spread-most bs)))

module _ (m : Option Time) (tag n : ℕ) (body : List ℕ) (b : Bytes body) (h : length body ≤ 1472) where
  good_most : (f : Found) → length (text_of (good_lines m tag n f body)) ≤ 65536
  good_most (Found.Frame x) =
      let a = frame_most x in
      let d = items_most m x.time body b (length body - 14) 14 (omega arith) in
      rw (length-append (frame_line x) (text_of (item_lines m x.time body 14))) (omega arith)
  good_most Found.Note =
      let a = spread-most body in
      let d = note_length body in
      rw (append-nil (note_line body)) (omega arith)
  good_most (Found.Start t) = let a = start_most t in rw (append-nil (start_line t)) (omega arith)
  good_most Found.Skipped =
      let a = row_most 8 2 (115 ∷ 107 ∷ 105 ∷ 112 ∷ 112 ∷ 101 ∷ 100 ∷ []) (tag ∷ n ∷ []) (omega arith) (omega arith) in
      rw (append-nil (skipped_line tag n)) (omega arith)

  found_most : (f : Result Found RecordError) → length (text_of (found_lines m tag n f body)) ≤ 65536
  found_most (Ok found) = good_most found
  found_most (Err why) =
      let a = row_most 8 2 (114 ∷ 101 ∷ 102 ∷ 117 ∷ 115 ∷ 101 ∷ 100 ∷ []) (tag ∷ number_of why ∷ []) (omega arith) (omega arith) in
      rw (append-nil (refused_line tag (number_of why))) (omega arith)

-- a field of a recording, its body in a buffer of 1,472 bytes
pub none_left_out : (m : Option Time) (f : Field) (buffer : List ℕ) (t : Text) → Bytes buffer → length buffer ≤ 1472 → t.at + 65536 ≤ length t.bytes
    → with_all t (field_lines m f buffer) ≡ whole_of t (text_of (field_lines m f buffer))
none_left_out m f buffer t b h r =
    let k : length (take f.length buffer) ≤ 1472 = rw (length-take f.length buffer) (omega arith) in
    let w = found_most m f.tag f.length (take f.length buffer) (bytes_part buffer 0 f.length b) k f.found in
    all_room (field_lines m f buffer) t (omega arith)
