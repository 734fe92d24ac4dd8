use Rattle.codec.proofs.NumberLaws.{word_none}
use Rattle.codec.proofs.number.word_at.Goals as goal

pub returns-in-None : goal.returns-in-None
returns-in-None c = word_none _ _ _ c.in-None.ensures.value
