use Rattle.std.proofs.Common.{refl}
use Rattle.text.proofs.PutLaws.{spelling_first, spelling_more, spelling_last, spelling_end}
use Rattle.text.proofs.put.spell.Goals as goal

pub loop-i-init : goal.loop-i-init
loop-i-init c = spelling_first _ _ c.requires

pub returns-then-x-eq0 : goal.returns-then-x-eq0
returns-then-x-eq0 c = spelling_last _ c.loop-i.invariant c.loop-i-test.true refl c.if-x-eq0.true

pub loop-i-preserved : goal.loop-i-preserved
loop-i-preserved c = spelling_more _ _ c.loop-i.invariant c.loop-i-test.true refl refl c.if-x-eq0.false

pub returns : goal.returns
returns c = spelling_end c.loop-i.invariant c.loop-i-test.false
