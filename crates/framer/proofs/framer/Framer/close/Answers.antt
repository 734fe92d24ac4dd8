use Rattle.std.proofs.Common.{refl}
use Rattle.framer.proofs.FramerLaws.{close_kept, close_lost}
use Rattle.framer.proofs.framer.Framer.close.Goals as goal

pub returns-then-m : goal.returns-then-m
returns-then-m c = close_kept _ _ _ _ _ c.closed-self.ensures c.if-m.true c.slot.ensures.is refl c.put-self.ensures

pub returns-else-m : goal.returns-else-m
returns-else-m c = close_lost _ _ c.closed-self.ensures c.if-m.false
