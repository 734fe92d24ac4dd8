-- What a reader makes of a frame of the ledger.
use Prim.Native.Nat.{ℕ, ◌+◌, ◌≤◌}
use lib.ListN.{length}
use mathlib.Core.Path.{refl, ◌∙◌}
use mathlib.Core.List.{List, [], ◌∷◌, map}
use native.Mathlib.Omega.{arith}
use Rattle.codec.specs.declared.time.Time.{Time}
use Rattle.codec.specs.Item.{encode}
use Rattle.codec.proofs.TimeLaws.{recovered_exact}
use Rattle.reader.specs.Listing.{listing}
use Rattle.reader.proofs.Theorems.{layout_bytes, complete, steps_yield}
use Rattle.history.specs.Ledger.{Limits, Line, Frame, item_in, entry_in}
use Rattle.history.specs.History.{All, Both, Shows, Reads}
use Rattle.history.proofs.Ground.Machine.{laid}
use Rattle.history.proofs.Ground.ListLaws.{both_map}
use Rattle.history.proofs.Ledger.FrameLaws.{total_body, Dated, Good}

-- the items one after the other, dated from the header time, show the lines
shows_all : (t : Time) (at : ℕ) (xs : List Line) → t.sec ≤ 281474976710655 → t.nano ≤ 999999999 → All (Dated t) xs → Both Shows (listing t at (map entry_in xs)) xs
unfolding item_in
shows_all t at [] s n p = tt
shows_all t at (x ∷ xs) s n p =
    let e = recovered_exact t x.offset s n p.0.offset in
    let a = p.0.never_after in
    let b = p.0.near in (
      record { item = refl; payload = refl; never_after = omega arith; near = omega arith },
      shows_all t (at + length (encode (entry_in x).item (entry_in x).payload)) xs s n p.1,
    )

pub reads_laid : (c : Limits) (f : Frame) → Good c f → Reads (laid f) f
unfolding laid
reads_laid c f g =
    let q = complete f.sequence f.time (map entry_in f.lines) g.head g.valid in
    let b = layout_bytes f.sequence f.time (map entry_in f.lines) g.head g.valid in
    let y = steps_yield (laid f) b q.0 in
    record {
      header = q.0 ∙ rw (total_body f.lines);
      items = q.1;
      lines = rw (y, q.1) (shows_all f.time 14 f.lines g.head.sec g.head.nano g.dated);
    }

pub all_read : (c : Limits) (fs : List Frame) → All (Good c) fs → Both Reads (map laid fs) fs
all_read c fs p = both_map Reads (Good c) laid (reads_laid c) fs p
