-- The tags that are ours: 1 a mirror frame, 2 a text note, 3 a microphone's start (docs/RULES.md, "Recordings").
use Rattle.std.specs.Prelude.{ℕ, eqb, Result, Ok, Err}
use Rattle.codec.specs.Choice.{pick}
use Rattle.recording.specs.declared.tag.Tag.{Tag}
use Rattle.recording.specs.declared.tag.UnknownTag.{UnknownTag}

abbrev pub tag_number : Tag → ℕ
tag_number Tag.Frame = 1
tag_number Tag.Note = 2
tag_number Tag.Start = 3

unfoldable pub tag_of : ℕ → Result Tag UnknownTag
tag_of n = pick (eqb n 1) (Ok Tag.Frame) (pick (eqb n 2) (Ok Tag.Note) (pick (eqb n 3) (Ok Tag.Start) (Err record {})))
