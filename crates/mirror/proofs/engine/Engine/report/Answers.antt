use Rattle.std.proofs.Common.{refl, ◌∙◌}
use Rattle.mirror.specs.Report.{report_of}
use Rattle.mirror.proofs.MirrorLaws.{refused, done, reported_by, report_judged}
use Rattle.mirror.proofs.engine.Engine.report.Goals as goal

pub returns-in-Err : goal.returns-in-Err
unfolding report_of
returns-in-Err c =
    c.refused.ensures ∙ refused _ _ _ _ _ _ (report_judged _ _ _ _ _ c.index-k.ensures.is c.accepts.ensures) c.in-Err.is

pub returns : goal.returns
unfolding report_of
returns c =
    done _ _ _ _ _ _ _ _ (report_judged _ _ _ _ _ c.index-k.ensures.is c.accepts.ensures) c.in_default.is c.back_for.ensures
    (reported_by _ _ _ _ _ _ _ _ c.index-k.ensures.is refl c.offer.ensures c.add-self.ensures c.settle.ensures)
