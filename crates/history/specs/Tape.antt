-- Demand 3, clause d, on a microphone's tape (docs/RULES.md, "Where on the tape").
use Rattle.std.specs.Prelude.{ℕ, ◌≡◌, List, length, ℤ, Ok}
use Rattle.codec.specs.declared.time.Time.{Time}
use Rattle.reader.specs.Listing.{Yield, stepping}
use Rattle.tape.specs.Sample.{apart_of, sample_of, SameOrNext, position_of}
use Rattle.history.specs.Ledger.{Line, Frame}
use Rattle.history.specs.History.{Both}

-- what the reader yields lies on the sample of the time that was reported or on the one before it; and so do the positions,
-- where both are answered
pub record OnTape (start : Time) (y : Yield) (x : Line) : Type 0 where
  pub sample : SameOrNext (sample_of (apart_of start y.time)) (sample_of (apart_of start x.event.time))
  pub position : (p q : ℤ) → position_of start y.time ≡ Ok p → position_of start x.event.time ≡ Ok q → SameOrNext p q

-- all items of a frame, as they are read from its bytes
abbrev pub FrameOnTape : Time → List ℕ → Frame → Type 0
FrameOnTape start s f = Both (OnTape start) (stepping (length s) s 14) f.lines
