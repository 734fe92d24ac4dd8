use Rattle.std.proofs.Common.{rules, arith, ◌≡◌}
use Rattle.std.specs.Prelude.{codes}
use Rattle.std.proofs.lemmas.Slice.Eq.{text_from_reads}
use Rattle.script.specs.Call.{filter_of}
use Rattle.script.proofs.short.filter.Goals as goal

pub returns-in-99 : goal.returns-in-99
unfolding filter_of
returns-in-99 c =
    let e : c.args.name.now ≡ codes "can-mask" = text_from_reads _ _ (omega arith) (search rules) in
    rw e

pub returns-in-108 : goal.returns-in-108
unfolding filter_of
returns-in-108 c =
    let e : c.args.name.now ≡ codes "lin-mask" = text_from_reads _ _ (omega arith) (search rules) in
    rw e

pub returns-in-99-2 : goal.returns-in-99-2
unfolding filter_of
returns-in-99-2 c =
    let e : c.args.name.now ≡ codes "can-range" = text_from_reads _ _ (omega arith) (search rules) in
    rw e

pub returns-in-108-2 : goal.returns-in-108-2
unfolding filter_of
returns-in-108-2 c =
    let e : c.args.name.now ≡ codes "lin-range" = text_from_reads _ _ (omega arith) (search rules) in
    rw e
