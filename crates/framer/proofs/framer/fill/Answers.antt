use Rattle.framer.proofs.FramerLaws.{fill_by, placed_least}
use Rattle.framer.proofs.framer.fill.Goals as goal

pub overflow_sub-after : goal.overflow_sub-after
overflow_sub-after c = rw c.placed_meter-after.ensures (placed_least _ _ _ c.requires.bound)

pub returns : goal.returns
returns c =
    fill_by _ _ _ _ _ _ _ _ _ _ _ c.next_item-item.ensures c.item_len-n.ensures.is c.placed_meter-after.ensures c.begin-at.ensures.0
    c.begin-at.ensures.1 c.lay.ensures
