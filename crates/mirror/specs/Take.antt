-- Taking (rule 7).
use Rattle.std.specs.Prelude.{ℕ, List, Err}
use Rattle.codec.specs.Choice.{pick}
use Rattle.framer.specs.declared.cause.Cause.{Cause}
use Rattle.framer.specs.Framer.{take_of, out_of}
use Rattle.mirror.specs.Engine.{sound_of}
use Rattle.mirror.specs.declared.engine.Engine.{Engine}
use Rattle.mirror.specs.declared.engine.Outcome.{Outcome}

-- take: 19, 13, 12
unfoldable pub taken_of : Engine → ℕ → Outcome ℕ
taken_of e room = pick (sound_of e)
    (record {
      engine = record { count = e.count; sources = e.sources; framer = (take_of e.framer room).framer };
      answer = (take_of e.framer room).answer;
    })
    (record { engine = e; answer = Err Cause.Unsound })

-- the output after it; later bytes stay, and beside a refusal all of them
unfoldable pub output_of : Engine → List ℕ → List ℕ
output_of e out = pick (sound_of e) (out_of e.framer out) out
