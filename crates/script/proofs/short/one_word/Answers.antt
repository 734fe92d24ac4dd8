use Rattle.std.proofs.Common.{rules, arith, ◌≡◌}
use Rattle.std.specs.Prelude.{codes}
use Rattle.std.proofs.lemmas.Slice.Eq.{text_from_reads}
use Rattle.script.specs.Call.{one_word_of}
use Rattle.script.proofs.short.one_word.Goals as goal

pub returns-in-failed : goal.returns-in-failed
unfolding one_word_of
returns-in-failed c =
    let e : c.args.name.now ≡ codes "failed" = text_from_reads _ _ (omega arith) (search rules) in
    rw e

pub returns-in-offline : goal.returns-in-offline
unfolding one_word_of
returns-in-offline c =
    let e : c.args.name.now ≡ codes "offline" = text_from_reads _ _ (omega arith) (search rules) in
    rw e

pub returns-in-discards : goal.returns-in-discards
unfolding one_word_of
returns-in-discards c =
    let e : c.args.name.now ≡ codes "discards" = text_from_reads _ _ (omega arith) (search rules) in
    rw e

pub returns-in-failures : goal.returns-in-failures
unfolding one_word_of
returns-in-failures c =
    let e : c.args.name.now ≡ codes "failures" = text_from_reads _ _ (omega arith) (search rules) in
    rw e
