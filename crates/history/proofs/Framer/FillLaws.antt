-- The framer's array holds the frame being filled, before and after each item.
use Prim.Native.Nat.{ℕ, ◌+◌, ◌-◌, ◌/◌, ◌≤◌}
use mathlib.Core.Path.{◌≡◌, sym, ◌∙◌, ap}
use mathlib.Core.Bool.{true, false}
use mathlib.Core.List.{List, [], ◌∷◌, ◌++◌, map, map-append}
use native.Mathlib.Omega.{arith}
use lib.ListN.{length, take, replicate}
use lib.Dec.{eqb}
use Rattle.codec.specs.Choice.{pick}
use Rattle.codec.specs.Time.{ns, time_ok}
use Rattle.codec.specs.Item.{item_ok}
use Rattle.codec.specs.Layout.{layout}
use Rattle.codec.specs.declared.time.Time.{Time}
use Rattle.codec.specs.declared.item.Item.{Item}
use Rattle.framer.specs.Meter.{item_of, offset_for, start_of}
use Rattle.framer.specs.Framer.{begun, laid_out, filled_meter, filled_bytes}
use Rattle.framer.specs.declared.offer.Offer.{Offer}
use Rattle.framer.specs.declared.meter.Meter.{Meter}
use Rattle.history.specs.Account.{Event}
use Rattle.history.specs.Ledger.{Limits, Line, Frame, Ledger, item_in, entry_in, size_in, total, is_empty, offset_in, line_for, enter}
use Rattle.history.proofs.Ground.Machine.{offer_in, laid, Fit}
use Rattle.history.proofs.Ground.ListLaws.{snoc_filled}
use Rattle.history.proofs.Ledger.Moves.{Ready, size_most, opened}
use Rattle.history.proofs.Ground.PadLaws.{pad, take_pad, laid_more, header_alone}
use Rattle.history.proofs.Ledger.FrameLaws.{total_body, laid_length}
use Rattle.history.proofs.Framer.MeterLaws.{filled_in, meter_of, item_same, filled_open, filled_zero, begin_meter, enter_meter, ticks_same, filled_more}

-- its bytes and then zeros
unfoldable pub image_in : Frame → List ℕ
image_in f = pick (is_empty f.lines) (replicate 1024 0) (pad (laid f))

image_open : (f : Frame) → is_empty f.lines ≡ false → image_in f ≡ pad (laid f)
unfolding image_in
image_open f e = rw e

pub image_front : (f : Frame) → is_empty f.lines ≡ false → take (filled_in f.lines) (image_in f) ≡ laid f
image_front f e = rw (image_open f e) (take_pad (laid f) (filled_in f.lines) (filled_open f.lines e ∙ sym (laid_length f)))

-- a line more in the array
more_laid : (n : ℕ) (t : Time) (xs : List Line) (x : Line) → item_ok (item_in x) (length x.event.payload) ≡ true → 14 + total xs + size_in x ≤ 1024
    → laid_out (pad (layout n t (map entry_in xs))) (14 + total xs) (item_in x) x.event.payload (total xs + size_in x) ≡ pad (layout n t (map entry_in (xs ++ (x ∷ []))))
unfolding size_in
more_laid n t xs x ok h =
    rw (map-append entry_in xs (x ∷ []), ← total_body xs)
    (laid_more n t (map entry_in xs) (entry_in x) ok (omega (arith, total_body xs)))

-- the bytes that the framer makes, in the terms of what it begins with, where and what it writes
fill_is : (bs : List ℕ) (m : Meter) (t : Time) (o : Offer) (payload begin : List ℕ) (at : ℕ) (item : Item) (k : ℕ)
    → begun bs m t ≡ begin → start_of m ≡ at → item_of m.lost (offset_for m t) o ≡ item → (filled_meter m t o (length payload)).filled ≡ 14 + k
    → filled_bytes bs m t o payload ≡ laid_out begin at item payload k
unfolding filled_bytes
fill_is bs m t o payload begin at item k eb es ei ek = let d : (filled_meter m t o (length payload)).filled - 14 ≡ k = omega arith in rw (eb, es, ei, d)

module _ (c : Limits) (l : Ledger) (ev : Event) (f : Fit c ev) (z : c.size ≤ 1024) where
  -- rule 1: the first item of a frame
  pub begin_bytes : l.filling.lines ≡ []
      → filled_bytes (image_in l.filling) (meter_of c l) ev.time (offer_in ev) ev.payload ≡ image_in (enter ev (opened ev.time l)).filling
  unfolding begun start_of meter_of offset_for enter line_for offset_in image_in laid
  begin_bytes e =
      let x : Line = record { event = ev; offset = 0; lost = l.lost } in
      let q : eqb (filled_in l.filling.lines) 0 ≡ true = filled_zero l.filling.lines ∙ rw e in
      let o : (ns ev.time - ns ev.time) / 10000 ≡ 0 = omega arith in
      let n = size_most x in
      let k = f.size in
      rw o (fill_is (image_in l.filling) (meter_of c l) ev.time (offer_in ev) ev.payload (pad (layout l.next ev.time [])) 14 (item_in x) (0 + size_in x)
      (rw (q, e) (header_alone l.next ev.time (time_ok ev.time) f.time)) (rw q) (rw q (item_same l.lost 0 ev f.state))
      (ap (λ (m : Meter). m.filled) (begin_meter c l ev f.state e) ∙ rw o (filled_more [] x ∙ omega arith))
      ∙ more_laid l.next ev.time [] x (f.ok 0 l.lost) (omega arith))

  -- and another one
  pub enter_bytes : is_empty l.filling.lines ≡ false → Ready c ev l
      → filled_bytes (image_in l.filling) (meter_of c l) ev.time (offer_in ev) ev.payload ≡ image_in (enter ev l).filling
  unfolding begun start_of meter_of offset_for enter laid offset_in line_for
  enter_bytes e r =
      let x : Line = line_for l ev in
      let xs : List Line = l.filling.lines in
      let q : eqb (filled_in xs) 0 ≡ false = filled_zero xs ∙ e in
      let i : image_in (enter ev l).filling ≡ pad (layout l.filling.sequence l.filling.time (map entry_in (xs ++ (x ∷ []))))
      = image_open (enter ev l).filling (snoc_filled xs x) in
      rw i (fill_is (image_in l.filling) (meter_of c l) ev.time (offer_in ev) ev.payload (pad (laid l.filling)) (14 + total xs) (item_in x) (total xs + size_in x)
      (rw q (image_open l.filling e)) (rw q (filled_open xs e))
      (rw (q, ticks_same (ns l.filling.time) (ns ev.time) r.later r.near) (item_same l.lost (offset_in l.filling ev.time) ev f.state))
      (ap (λ (m : Meter). m.filled) (enter_meter c l ev f.state e) ∙ filled_more xs x ∙ omega arith)
      ∙ more_laid l.filling.sequence l.filling.time xs x (f.ok (offset_in l.filling ev.time) l.lost) (omega (arith, r.room f)))
