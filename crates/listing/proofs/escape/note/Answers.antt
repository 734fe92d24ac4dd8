use Rattle.std.proofs.Common.{not, ap, arith}
use Rattle.codec.proofs.NumberLaws.{full}
use Rattle.text.proofs.ShortLaws.{short_then, short_wrote}
use Rattle.listing.proofs.EscapeLaws.{note_length, room_left, no_room_left}
use Rattle.listing.specs.Line.{note_line}
use Rattle.listing.proofs.escape.note.Goals as goal

pub returns-in_err-checked_sub : goal.returns-in_err-checked_sub
returns-in_err-checked_sub c = rw c.from_residual.ensures (full (omega (arith, note_length c.args.text.now, c.in_err-checked_sub.ensures)))

pub returns-in_err-room : goal.returns-in_err-room
returns-in_err-room c = rw c.from_residual-in_err-room.ensures (full (omega (arith, note_length c.args.text.now, c.in_ok-checked_sub.ensures, c.in_err-room.ensures)))

pub returns-then-not-fits : goal.returns-then-not-fits
unfolding note_line
returns-then-not-fits c = full (omega (arith, note_length c.args.text.now, no_room_left _ _ c.fits.ensures (ap not c.if-not-fits.true)))

pub lay_bytes-b-requires : goal.lay_bytes-b-requires
unfolding note_line
lay_bytes-b-requires c = omega (arith, room_left _ _ c.fits.ensures (ap not c.if-not-fits.false))

pub lay-requires : goal.lay-requires
unfolding note_line
lay-requires c = omega (arith, room_left _ _ c.fits.ensures (ap not c.if-not-fits.false))

pub returns : goal.returns
unfolding note_line
returns c = short_wrote (short_then (short_then c.lay-a.ensures c.lay_bytes-b.ensures) c.lay.ensures)
