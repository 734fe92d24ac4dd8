use Rattle.recording.proofs.WriteLaws.{start_laid}
use Rattle.recording.proofs.write.lay_start.Goals as goal

pub returns : goal.returns
returns c = start_laid _ c.requires c.put_be.ensures c.put_be-2.ensures
