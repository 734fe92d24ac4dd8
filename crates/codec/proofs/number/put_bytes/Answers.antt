use Rattle.std.proofs.Common.{refl}
use Rattle.codec.proofs.NumberLaws.{unwritten}
use Rattle.codec.proofs.number.put_bytes.Goals as goal

pub returns-in_err-next : goal.returns-in_err-next
returns-in_err-next c = unwritten c.from_residual.ensures c.in_err-next.ensures.room refl
