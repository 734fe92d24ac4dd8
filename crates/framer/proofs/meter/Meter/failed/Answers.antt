use borrow.Author.Tests.{not-true, not-false}
use Rattle.framer.proofs.FramerLaws.{fail_none, fail_out}
use Rattle.framer.proofs.meter.Meter.failed.Goals as goal

pub returns-then-not-self : goal.returns-then-not-self
returns-then-not-self c = fail_none _ (not-true _ c.if-not-self.true)

pub returns : goal.returns
returns c = fail_out _ _ (not-false _ c.if-not-self.false) c.counted.ensures
