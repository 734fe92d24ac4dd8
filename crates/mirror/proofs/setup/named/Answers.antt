use Rattle.std.proofs.Common.{◌∙◌, arith, rules}
use Rattle.std.proofs.Math.ListN.{length-set}
use Rattle.mirror.proofs.MirrorLaws.{named_next, left_length}
use Rattle.mirror.proofs.setup.named.Goals as goal

pub loop-rest-preserved : goal.loop-rest-preserved
loop-rest-preserved c = record {
  within = omega (arith, left_length _ c.in-len2-up.len_at_least);
  whole = search (rules, length-set);
  same = c.loop-rest.invariant.same ∙ named_next _ _ _ _ c.in-len2-up.len_at_least c.source_numbered.ensures;
}
