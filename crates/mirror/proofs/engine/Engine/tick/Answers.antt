use Rattle.std.proofs.Common.{sym, ◌∙◌}
use Rattle.mirror.specs.Tick.{tick_cause, tick_of}
use Rattle.mirror.proofs.MirrorLaws.{done, sounded, ticked_by, few}
use Rattle.mirror.proofs.engine.Engine.tick.Goals as goal

pub states-e-requires : goal.states-e-requires
unfolding tick_cause
states-e-requires c = few c.args.self (sounded _ _ _ (sym c.may_tick.ensures ∙ c.in_default.is)).0

pub returns : goal.returns
unfolding tick_of
returns c =
    done _ _ _ _ _ _ _ _ c.may_tick.ensures c.in_default.is c.back_for.ensures (ticked_by _ _ _ _ c.states-e.ensures c.pass-e.ensures)
