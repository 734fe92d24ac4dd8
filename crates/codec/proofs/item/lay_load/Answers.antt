use Rattle.std.proofs.Common.{Bool, length, refl, ap, [], arith}
use Rattle.std.proofs.Math.ListN.{length-set}
use Rattle.codec.specs.Item.{load_bytes}
use Rattle.codec.proofs.NumberLaws.{laid, laid_by, chain}
use Rattle.codec.proofs.item.lay_load.Goals as goal

pub returns : goal.returns
returns c =
    let e = ap (λ (b : Bool). length (load_bytes b c.args.payload.now)) c.if-not-carries.false in
    rw c.if-not-carries.false (chain (laid _ [] refl (omega arith)) (laid_by c.put_bytes.ensures refl (simp length-set (omega arith))) (omega arith))
