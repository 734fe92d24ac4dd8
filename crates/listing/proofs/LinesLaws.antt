-- Lines written one after another, and the lines of a frame's items. Assumes nothing.
use Prim.Native.Nat.{ℕ, ◌+◌, ◌≤◌, ◌<◌}
use mathlib.Core.Path.{◌≡◌, refl, sym, ◌∙◌, ap}
use mathlib.Core.Bool.{Bool, true, false}
use mathlib.Core.List.{List, [], ◌∷◌}
use lib.ListN.{length}
use Rattle.codec.specs.Choice.{pick}
use Rattle.codec.specs.Number.{over, fits, Wrote}
use Rattle.codec.specs.Time.{recovered_of}
use Rattle.codec.specs.Field.{read_item, bytes_at}
use Rattle.codec.specs.declared.time.Time.{Time}
use Rattle.codec.specs.declared.refusal.Refusal.{Refusal}
use Rattle.codec.specs.declared.field.Decoded.{Decoded}
use Rattle.std.specs.Prelude.{Option, Some, None, Ok, Err}
use Rattle.std.specs.Option.{unwrap_or}
use Rattle.reader.proofs.AlongLaws.{items_end, items_item, items-bad}
use Rattle.listing.specs.Line.{item_line}
use Rattle.listing.specs.Field.{Text, item_lines, with, with_all}

-- a line that was written where it fits, and where writing goes on
pub wrote_with : {l l' : List ℕ} {at r : ℕ} {bs : List ℕ} {p : Option ℕ} → Wrote true l at bs l' p → r ≡ unwrap_or p at
    → ◌≡◌ {A = Text} (record { bytes = l'; at = r }) (with (record { bytes = l; at = at }) bs)
unfolding with
wrote_with {l} {l'} {at} {r} {bs} {p} w e = rw (e, w.list, w.answer) (go (fits l at (length bs)))
  where
    go : (b : Bool) → ◌≡◌ {A = Text} (record { bytes = pick b (over l at bs) l; at = unwrap_or (pick b (Some (at + length bs)) None) at })
        (pick b (record { bytes = over l at bs; at = at + length bs }) (record { bytes = l; at = at }))
    go true = refl
    go false = refl

module _ (m : Option Time) (t : Time) (s : List ℕ) (at : ℕ) where
  -- no line past the end, none from a refusal on
  pub lines_past : length s ≤ at → item_lines m t s at ≡ []
  unfolding item_lines
  lines_past h = rw (items_end s at h)

  pub lines_bad : {why : Refusal} → at < length s → read_item s at ≡ Err why → item_lines m t s at ≡ []
  unfolding item_lines
  lines_bad h q = rw (items-bad s at h q)

  -- the line of the item at a place comes first
  pub lines_item : {d : Decoded} → at < length s → read_item s at ≡ Ok d
      → item_lines m t s at ≡ item_line m (recovered_of t d.item.offset.0) d.item (bytes_at s d.start d.len) ∷ item_lines m t s d.next
  unfolding item_lines
  lines_item h q = rw (items_item s at h q)

-- the loop: what is written, and the lines that are left
pub record Left (m : Option Time) (t : Time) (s : List ℕ) (l : List ℕ) (from : ℕ) (out : List ℕ) (at place : ℕ) : Type 0 where
  pub size : length out ≡ length l
  pub left : with_all (record { bytes = l; at = from }) (item_lines m t s 14) ≡ with_all (record { bytes = out; at = at }) (item_lines m t s place)

pub left_item : {m : Option Time} {t : Time} {s l : List ℕ} {from : ℕ} {out out' : List ℕ} {at at' place : ℕ} {d : Decoded} {p : Option ℕ} {when : Time} {payload : List ℕ}
    → Left m t s l from out at place → place < length s → read_item s place ≡ Ok d → when ≡ recovered_of t d.item.offset.0
    → payload ≡ bytes_at s d.start d.len → Wrote true out at (item_line m when d.item payload) out' p → at' ≡ unwrap_or p at → length out' ≡ length out
    → Left m t s l from out' at' d.next
left_item {m} {t} {s} {l} {from} {out} {out'} {at} {at'} {place} {d} k h q x y w e n = record {
  size = n ∙ k.size;
  left = k.left ∙ rw (lines_item m t s place h q, ← x, ← y) (ap (λ (z : Text). with_all z (item_lines m t s d.next)) (sym (wrote_with w e)));
}

pub left_bad : {m : Option Time} {t : Time} {s l : List ℕ} {from : ℕ} {out : List ℕ} {at place : ℕ} {why : Refusal}
    → Left m t s l from out at place → place < length s → read_item s place ≡ Err why
    → ◌≡◌ {A = Text} (record { bytes = out; at = at }) (with_all (record { bytes = l; at = from }) (item_lines m t s 14))
left_bad {m} {t} {s} {place = place} k h q = sym (k.left ∙ rw (lines_bad m t s place h q))

pub left_last : {m : Option Time} {t : Time} {s l : List ℕ} {from : ℕ} {out : List ℕ} {at place : ℕ}
    → Left m t s l from out at place → length s ≤ place
    → ◌≡◌ {A = Text} (record { bytes = out; at = at }) (with_all (record { bytes = l; at = from }) (item_lines m t s 14))
left_last {m} {t} {s} {place = place} k h = sym (k.left ∙ rw (lines_past m t s place h))

-- a line and then others; one line alone
pub then_all : {l m : List ℕ} {at k : ℕ} {bs : List ℕ} {p : Option ℕ} {x : Text} (lines : List (List ℕ)) → Wrote true l at bs m p → k ≡ unwrap_or p at
    → x ≡ with_all (record { bytes = m; at = k }) lines → x ≡ with_all (record { bytes = l; at = at }) (bs ∷ lines)
then_all lines w e f = f ∙ ap (λ (z : Text). with_all z lines) (wrote_with w e)
