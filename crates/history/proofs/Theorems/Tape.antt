-- On the tape of a microphone every item that is read lies on the sample of its reported time or on the one before it.
use Prim.Native.Nat.{ℕ, ◌+◌, ◌≤◌}
use mathlib.Core.List.{List, ◌++◌}
use native.Mathlib.Omega.{arith}
use lib.ListN.{length}
use Rattle.codec.specs.Time.{ns}
use Rattle.codec.specs.declared.time.Time.{Time}
use Rattle.reader.specs.Listing.{Yield, stepping}
use Rattle.tape.proofs.PlaceLaws.{soon}
use Rattle.tape.proofs.SoonLaws.{positions_soon}
use Rattle.mirror.specs.declared.engine.Engine.{Engine}
use Rattle.history.specs.Account.{Account}
use Rattle.history.specs.Ledger.{Limits, Line, Frame, Ledger, kept_in, filling_in}
use Rattle.history.specs.Deed.{Deed}
use Rattle.history.specs.History.{Both, Shows, Reads, frames_taken, frames_waiting, frames_filling, History}
use Rattle.history.specs.Tape.{OnTape, FrameOnTape}
use Rattle.history.proofs.Ground.ListLaws.{both_weaken}
use Rattle.history.proofs.Theorems.Lossless.{in_order}

-- ten microseconds are less than a sample
pub shown_on_tape : (start : Time) (y : Yield) (x : Line) → Shows y x → OnTape start y x
shown_on_tape start y x h =
    let a = h.never_after in
    let b = h.near in
    let k : ns x.event.time ≤ ns y.time + 20833 = omega arith in
    record { sample = soon (ns start) (ns y.time) (ns x.event.time) a k; position = positions_soon start y.time x.event.time a k }

pub read_on_tape : (start : Time) (s : List ℕ) (f : Frame) → Reads s f → FrameOnTape start s f
read_on_tape start s f h = both_weaken Shows (OnTape start) (shown_on_tape start) (stepping (length s) s 14) f.lines h.lines

-- for any start, in every frame that was taken, waits or is being filled
pub on_tape : (c : Limits) (book : List Account) (ds : List Deed) (l : Ledger) (u : Engine) → History c book ds l u → (start : Time)
    → Both (FrameOnTape start) (frames_taken ds ++ frames_waiting u ++ frames_filling u) (kept_in l.closed ++ filling_in l)
on_tape c book ds l u h start =
    both_weaken Reads (FrameOnTape start) (read_on_tape start) (frames_taken ds ++ frames_waiting u ++ frames_filling u) (kept_in l.closed ++ filling_in l) (in_order c book ds l u h)
