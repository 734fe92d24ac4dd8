use Rattle.std.proofs.Common.{arith}
use Rattle.recording.proofs.WriteLaws.{field_full, field_laid}
use Rattle.recording.proofs.write.put_field.Goals as goal

pub returns-in_default : goal.returns-in_default
returns-in_default c = field_full _ _ c.in_default.ensures.room

pub returns : goal.returns
returns c =
    let r = c.in-Some.ensures.room in
    rw r.0 (field_laid _ _ (rw c.from.ensures at c.put_be.ensures) c.put_bytes.ensures (omega (arith, r.1)))
