use Rattle.std.proofs.Common.{sym, arith}
use Rattle.codec.proofs.Inverse.{read_room}
use Rattle.reader.proofs.items.ItemsIterator.next.Goals as goal

pub returns-in-Ok-clause-goes : goal.returns-in-Ok-clause-goes
returns-in-Ok-clause-goes c =
    let r = read_room _ _ (sym c.in-Ok.ensures) in
    record { on = λ f. (tt, tt, omega arith); keeps = tt; rests = λ f. tt }
