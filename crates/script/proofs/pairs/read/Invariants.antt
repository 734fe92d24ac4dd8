use Rattle.std.proofs.Common.{length}
use Rattle.std.specs.Prelude.{drop}
use Rattle.text.specs.Line.{split}
use Rattle.script.proofs.PairsLaws.{Gathering}
use Rattle.script.proofs.pairs.read.Given as goal

abbrev pub invariant-loop-word : goal.invariant-loop-word
invariant-loop-word l = Gathering (drop 4 (split l.line)) l.fn.out l.out (length l.yielded) l.n
