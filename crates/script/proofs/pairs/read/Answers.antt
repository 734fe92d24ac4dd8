use Rattle.std.proofs.Common.{rules, tests, eqb}
use Rattle.std.proofs.lemmas.List.{length_push}
use Rattle.std.proofs.lemmas.Iterator.Adapters.{YieldsList-from_skip}
use Rattle.std.proofs.lemmas.Iterator.Consumers.{YieldsList-at}
use Rattle.std.proofs.lemmas.Iterator.Splits.{YieldsList-from_slice_split}
use Rattle.script.proofs.PairsLaws.{turn, over, gathering_bad, gathering_kept, gathering_past, gathering_end}
use Rattle.script.proofs.pairs.read.Goals as goal

pub returns-in_err-v : goal.returns-in_err-v
returns-in_err-v c =
    let w = turn _ _ c.loop-word.yielded _ c.loop-word.yielded_by c.next.ensures.steps c.in-Some.word c.in-Some.is (YieldsList-at c.into_iter-word-iterator.ensures.into_iter_gives (YieldsList-from_skip 4 (YieldsList-at c.skip-word-items.ensures.source
    (YieldsList-from_slice_split _ (λ x. eqb x 32) c.args.line.now c.split.ensures.rest c.split.ensures.done c.split.ensures.closure (λ x b q k. search (rules, tests))))
    c.skip-word-items.ensures.count)) in
    rw c.from_residual.ensures (gathering_bad c.loop-word.invariant c.in-Some.word.now w.0 w.1 c.narrow_of.ensures c.in_err-v.was)

pub loop-word-preserved-then-n-lt18 : goal.loop-word-preserved-then-n-lt18
loop-word-preserved-then-n-lt18 c =
    let w = turn _ _ c.loop-word.yielded _ c.loop-word.yielded_by c.next.ensures.steps c.in-Some.word c.in-Some.is (YieldsList-at c.into_iter-word-iterator.ensures.into_iter_gives (YieldsList-from_skip 4 (YieldsList-at c.skip-word-items.ensures.source
    (YieldsList-from_slice_split _ (λ x. eqb x 32) c.args.line.now c.split.ensures.rest c.split.ensures.done c.split.ensures.closure (λ x b q k. search (rules, tests))))
    c.skip-word-items.ensures.count)) in
    rw (length_push c.loop-word.yielded c.in-Some.word) (gathering_kept c.loop-word.invariant c.in-Some.word.now w.0 w.1 c.narrow_of.ensures c.in_ok-v.was c.if-n-lt18.true)

pub loop-word-preserved : goal.loop-word-preserved
loop-word-preserved c =
    let w = turn _ _ c.loop-word.yielded _ c.loop-word.yielded_by c.next.ensures.steps c.in-Some.word c.in-Some.is (YieldsList-at c.into_iter-word-iterator.ensures.into_iter_gives (YieldsList-from_skip 4 (YieldsList-at c.skip-word-items.ensures.source
    (YieldsList-from_slice_split _ (λ x. eqb x 32) c.args.line.now c.split.ensures.rest c.split.ensures.done c.split.ensures.closure (λ x b q k. search (rules, tests))))
    c.skip-word-items.ensures.count)) in
    rw (length_push c.loop-word.yielded c.in-Some.word) (gathering_past c.loop-word.invariant c.in-Some.word.now w.0 w.1 c.narrow_of.ensures c.in_ok-v.was c.if-n-lt18.false)

pub returns : goal.returns
returns c = gathering_end c.loop-word.invariant (over _ _ c.loop-word.yielded _ c.loop-word.yielded_by c.next.ensures.steps c.in-None.is (YieldsList-at c.into_iter-word-iterator.ensures.into_iter_gives (YieldsList-from_skip 4 (YieldsList-at c.skip-word-items.ensures.source
    (YieldsList-from_slice_split _ (λ x. eqb x 32) c.args.line.now c.split.ensures.rest c.split.ensures.done c.split.ensures.closure (λ x b q k. search (rules, tests))))
    c.skip-word-items.ensures.count)))
