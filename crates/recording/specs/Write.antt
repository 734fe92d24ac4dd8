-- Writing a field into a lent output at an index, the whole of it or nothing (docs/RULES.md, "Recordings").
use Rattle.std.specs.Prelude.{ℕ, ◌+◌, ◌≡◌, ◌&&◌, List, [], ◌∷◌, ◌++◌, length, Result, Ok, Err, ⊤}
use Rattle.std.specs.Result.{is_ok, result_and}
use Rattle.codec.specs.Choice.{pick, then}
use Rattle.codec.specs.Number.{be, over, fits}
use Rattle.codec.specs.Time.{time_ok}
use Rattle.codec.specs.declared.time.Time.{Time}
use Rattle.reader.specs.Frame.{judge_of, resolved}
use Rattle.recording.specs.File.{short_of}
use Rattle.recording.specs.declared.error.RecordError.{RecordError}

-- tag, length, body
unfoldable pub field_bytes : ℕ → List ℕ → List ℕ
field_bytes tag body = (tag ∷ []) ++ be 2 (length body) ++ body

-- the body of a microphone's start: seconds, nanoseconds
unfoldable pub start_bytes : Time → List ℕ
start_bytes t = be 6 t.sec ++ be 4 t.nano

-- what stands against writing it: 41, then the reader's refusal
unfoldable pub frame_answer : List ℕ → Result ⊤ RecordError
frame_answer body =
    then (short_of (length body)) (λ short. resolved (judge_of body) (λ h. Ok tt) (λ why. Err (RecordError.Frame why)))

-- 41
unfoldable pub note_answer : List ℕ → Result ⊤ RecordError
note_answer body = short_of (length body)

-- 42, also for seconds that six bytes do not hold
unfoldable pub start_answer : Time → Result ⊤ RecordError
start_answer t = pick (time_ok t) (Ok tt) (Err RecordError.Start)

-- where nothing stands against it and there is room, bs stand at index at and the answer is the index past them;
-- else nothing changed, and the answer is what stands against it, or 12, which comes last
pub record Recorded (answer : Result ⊤ RecordError) (l : List ℕ) (at : ℕ) (bs l' : List ℕ) (r : Result ℕ RecordError) : Type 0 where
  pub list : l' ≡ pick (is_ok answer && fits l at (length bs)) (over l at bs) l
  pub says : r ≡ result_and answer (pick (fits l at (length bs)) (Ok (at + length bs)) (Err RecordError.Small))
