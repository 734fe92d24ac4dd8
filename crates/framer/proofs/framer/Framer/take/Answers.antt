use Rattle.std.proofs.Common.{sym, ◌∙◌, arith}
use Rattle.framer.proofs.FramerLaws.{take_refused, take_done, readied, sounds}
use Rattle.framer.proofs.framer.Framer.take.Goals as goal

pub returns-in_default-clause-value : goal.returns-in_default-clause-value
returns-in_default-clause-value c = (take_refused _ _ _ _ c.ready-answer.ensures c.in_default.is).0

pub returns-in_default-clause-out_after : goal.returns-in_default-clause-out_after
returns-in_default-clause-out_after c = (take_refused _ _ _ _ c.ready-answer.ensures c.in_default.is).1

pub bounds-self-self : goal.bounds-self-self
bounds-self-self c = omega (arith, (sounds _ (readied _ _ _ (sym c.ready-answer.ensures ∙ c.in-Ok.is)).sound).first)

pub offset_bounds-self-self : goal.offset_bounds-self-self
offset_bounds-self-self c = omega (arith, (sounds _ (readied _ _ _ (sym c.ready-answer.ensures ∙ c.in-Ok.is)).sound).first)

pub returns-clause-value : goal.returns-clause-value
returns-clause-value c =
    (take_done _ _ _ _ _ _ _ c.ready-answer.ensures c.in-Ok.is c.taken-self.ensures c.part_at.ensures c.put_bytes.ensures).0

pub returns-clause-out_after : goal.returns-clause-out_after
returns-clause-out_after c =
    (take_done _ _ _ _ _ _ _ c.ready-answer.ensures c.in-Ok.is c.taken-self.ensures c.part_at.ensures c.put_bytes.ensures).1
