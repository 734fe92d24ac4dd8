use Rattle.std.proofs.Common.{refl, get_or, arith}
use Rattle.text.proofs.ShortLaws.{short_as, short_is}
use Rattle.listing.proofs.FixedLaws.{fixed_length}
use Rattle.listing.proofs.SpreadLaws.{spreading_room, spreading_more, spreading_end, pairs-length}
use Rattle.listing.proofs.digit.bytes.Goals as goal

pub lay-k-requires : goal.lay-k-requires
lay-k-requires c = omega (arith, fixed_length 16 2 (get_or c.args.src.now c.loop-b.b-index 0), spreading_room c.loop-b.invariant c.loop-b-test.true (omega (arith, pairs-length c.args.src.now)))

pub loop-b-preserved : goal.loop-b-preserved
loop-b-preserved c = spreading_more c.loop-b.invariant c.loop-b-test.true (short_is c.lay-k.ensures c.fixed.ensures)

pub returns : goal.returns
returns c = short_as (spreading_end c.loop-b.invariant c.loop-b-test.false (omega (arith, pairs-length c.args.src.now))) refl (omega (arith, pairs-length c.args.src.now))
