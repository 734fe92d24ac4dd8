use Rattle.std.proofs.Common.{arith}
use Rattle.codec.proofs.Stands.{bytes_of}
use Rattle.mending.proofs.HoldLaws.{held_by}
use Rattle.mending.proofs.copy.next.Goals as goal

pub returns-clause-hold_after : goal.returns-clause-hold_after
returns-clause-hold_after c =
    held_by _ _ (bytes_of c.args.piece.now (λ i h. omega (arith, c.type_inv.piece i)))
    (omega arith) (omega arith) _ (omega arith) c.inside-at.ensures c.next-step.ensures.value c.front-used.ensures c.put_bytes.ensures
