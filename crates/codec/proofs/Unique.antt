-- Any two outcomes that a public function's own contract permits coincide.
use mathlib.Core.Path.{◌≡◌, sym, ◌∙◌, ap}
use Prim.Native.Nat.{ℕ}
use Rattle.codec.proofs.field.read_flags.Reads as read-flags
use Rattle.codec.proofs.field.read_state.Reads as read-state
use Rattle.codec.proofs.field.read_ident.Reads as read-ident
use Rattle.codec.proofs.field.read_load.Reads as read-load
use Rattle.codec.proofs.field.read_item.Reads as read-item
use Rattle.codec.proofs.header.read_header.Reads as read-header
use Rattle.codec.proofs.header.time_at.Reads as time-at
use Rattle.codec.proofs.ident.KindTryFromU8.try_from.Reads as kind-in
use Rattle.codec.proofs.ident.kind_of.Reads as kind-of
use Rattle.codec.proofs.ident.can_zero.Reads as can-zero
use Rattle.codec.proofs.ident.can_range.Reads as can-range
use Rattle.codec.proofs.ident.can_fd.Reads as can-fd
use Rattle.codec.proofs.ident.pid_ok.Reads as pid-ok
use Rattle.codec.proofs.ident.channels_ok.Reads as channels-ok
use Rattle.codec.proofs.ident.flexray_range.Reads as flexray-range
use Rattle.codec.proofs.ident.ident_ok.Reads as ident-ok
use Rattle.codec.proofs.item.set_ok.Reads as set-ok
use Rattle.codec.proofs.item.lin_zero.Reads as lin-zero
use Rattle.codec.proofs.item.state_ok.Reads as state-ok
use Rattle.codec.proofs.item.item_ok.Reads as item-ok
use Rattle.codec.proofs.number.low8.Reads as low8
use Rattle.codec.proofs.number.get.Reads as get
use Rattle.codec.proofs.number.get_part.Reads as get-part
use Rattle.codec.proofs.refusal.U8FromRefusal.from.Reads as number_of_lem
use Rattle.codec.proofs.time.in_range.Reads as in-range
use Rattle.codec.proofs.time.ticks_of_nanos.Reads as ticks-of-nanos
use Rattle.codec.proofs.time.measure.Reads as measure
use Rattle.codec.proofs.time.overdue.Reads as overdue
use Rattle.codec.proofs.time.recovered.Reads as recovered
use Rattle.codec.proofs.ident.U8FromKind.from.Reads as network-type
use Rattle.codec.proofs.ident.most_of.Reads as most-of
use Rattle.codec.proofs.item.item_len.Reads as item-len
use Rattle.codec.proofs.number.word_at.Reads as word_at
use Rattle.codec.proofs.time.nanos_of_ticks.Reads as nanos-of-ticks
use Rattle.codec.proofs.time.millis_of_nanos.Reads as millis-of-nanos
use Rattle.codec.proofs.time.nanos_of_millis.Reads as nanos-of-millis
use Rattle.codec.proofs.number.put_be.Reads as put-be
use Rattle.codec.proofs.number.put_bytes.Reads as put-bytes
use Rattle.codec.proofs.item.write_item.Reads as write-item
use Rattle.codec.proofs.header.write_header.Reads as write-header
use Rattle.codec.proofs.field.part_at.Reads as part_at

pub read_flags_unique : (κs : _) (a : _) (r r' : _) (x x' : _) → read-flags.Post κs a r x → read-flags.Post κs a r' x' → r ≡ r'
read_flags_unique κs a r r' x x' p q = p ∙ sym q

pub read_state_unique : (κs : _) (a : _) (r r' : _) (x x' : _) → read-state.Post κs a r x → read-state.Post κs a r' x' → r ≡ r'
read_state_unique κs a r r' x x' p q = p ∙ sym q

pub read_ident_unique : (κs : _) (a : _) (r r' : _) (x x' : _) → read-ident.Post κs a r x → read-ident.Post κs a r' x' → r ≡ r'
read_ident_unique κs a r r' x x' p q = p ∙ sym q

pub read_load_unique : (κs : _) (a : _) (r r' : _) (x x' : _) → read-load.Post κs a r x → read-load.Post κs a r' x' → r ≡ r'
read_load_unique κs a r r' x x' p q = p ∙ sym q

pub read_item_unique : (κs : _) (a : _) (r r' : _) (x x' : _) → read-item.Post κs a r x → read-item.Post κs a r' x' → r ≡ r'
read_item_unique κs a r r' x x' p q = p ∙ sym q

pub time_at_unique : (κs : _) (a : _) (r r' : _) (x x' : _) → time-at.Post κs a r x → time-at.Post κs a r' x' → r ≡ r'
time_at_unique κs a r r' x x' p q = p ∙ sym q

pub read_header_unique : (κs : _) (a : _) (r r' : _) (x x' : _) → read-header.Post κs a r x → read-header.Post κs a r' x' → r ≡ r'
read_header_unique κs a r r' x x' p q = p ∙ sym q

pub kind_in_unique : (κs : _) (a : _) (r r' : _) (x x' : _) → kind-in.Post κs a r x → kind-in.Post κs a r' x' → r ≡ r'
kind_in_unique κs a r r' x x' p q = p ∙ sym q

pub kind_of_unique : (κs : _) (a : _) (r r' : _) (x x' : _) → kind-of.Post κs a r x → kind-of.Post κs a r' x' → r ≡ r'
kind_of_unique κs a r r' x x' p q = p ∙ sym q

pub can_zero_unique : (κs : _) (a : _) (r r' : _) (x x' : _) → can-zero.Post κs a r x → can-zero.Post κs a r' x' → r ≡ r'
can_zero_unique κs a r r' x x' p q = p ∙ sym q

pub can_range_unique : (κs : _) (a : _) (r r' : _) (x x' : _) → can-range.Post κs a r x → can-range.Post κs a r' x' → r ≡ r'
can_range_unique κs a r r' x x' p q = p ∙ sym q

pub can_fd_unique : (κs : _) (a : _) (r r' : _) (x x' : _) → can-fd.Post κs a r x → can-fd.Post κs a r' x' → r ≡ r'
can_fd_unique κs a r r' x x' p q = p ∙ sym q

pub pid_ok_unique : (κs : _) (a : _) (r r' : _) (x x' : _) → pid-ok.Post κs a r x → pid-ok.Post κs a r' x' → r ≡ r'
pid_ok_unique κs a r r' x x' p q = p ∙ sym q

pub channels_ok_unique : (κs : _) (a : _) (r r' : _) (x x' : _) → channels-ok.Post κs a r x → channels-ok.Post κs a r' x' → r ≡ r'
channels_ok_unique κs a r r' x x' p q = p ∙ sym q

pub flexray_range_unique : (κs : _) (a : _) (r r' : _) (x x' : _) → flexray-range.Post κs a r x → flexray-range.Post κs a r' x' → r ≡ r'
flexray_range_unique κs a r r' x x' p q = p ∙ sym q

pub ident_ok_unique : (κs : _) (a : _) (r r' : _) (x x' : _) → ident-ok.Post κs a r x → ident-ok.Post κs a r' x' → r ≡ r'
ident_ok_unique κs a r r' x x' p q = p ∙ sym q

pub set-ok_unique : (κs : _) (a : _) (r r' : _) (x x' : _) → set-ok.Post κs a r x → set-ok.Post κs a r' x' → r ≡ r'
set-ok_unique κs a r r' x x' p q = p ∙ sym q

pub lin_zero_unique : (κs : _) (a : _) (r r' : _) (x x' : _) → lin-zero.Post κs a r x → lin-zero.Post κs a r' x' → r ≡ r'
lin_zero_unique κs a r r' x x' p q = p ∙ sym q

pub state_ok_unique : (κs : _) (a : _) (r r' : _) (x x' : _) → state-ok.Post κs a r x → state-ok.Post κs a r' x' → r ≡ r'
state_ok_unique κs a r r' x x' p q = p ∙ sym q

pub item_ok_unique : (κs : _) (a : _) (r r' : _) (x x' : _) → item-ok.Post κs a r x → item-ok.Post κs a r' x' → r ≡ r'
item_ok_unique κs a r r' x x' p q = p ∙ sym q

pub low8_unique : (κs : _) (a : _) (r r' : _) (x x' : _) → low8.Post κs a r x → low8.Post κs a r' x' → r ≡ r'
low8_unique κs a r r' x x' p q = p ∙ sym q

pub get_unique : (κs : _) (a : _) (r r' : _) (x x' : _) → get.Post κs a r x → get.Post κs a r' x' → r ≡ r'
get_unique κs a r r' x x' p q = p.0 ∙ sym q.0

pub get_part_unique : (κs : _) (a : _) (r r' : _) (x x' : _) → get-part.Post κs a r x → get-part.Post κs a r' x' → r ≡ r'
get_part_unique κs a r r' x x' p q = p.0 ∙ sym q.0

pub number_of_unique : (κs : _) (a : _) (r r' : _) (x x' : _) → number_of_lem.Post κs a r x → number_of_lem.Post κs a r' x' → r ≡ r'
number_of_unique κs a r r' x x' p q = p ∙ sym q

pub in_range_unique : (κs : _) (a : _) (r r' : _) (x x' : _) → in-range.Post κs a r x → in-range.Post κs a r' x' → r ≡ r'
in_range_unique κs a r r' x x' p q = p ∙ sym q

pub ticks_of_nanos_unique : (κs : _) (a : _) (r r' : _) (x x' : _) → ticks-of-nanos.Post κs a r x → ticks-of-nanos.Post κs a r' x' → r ≡ r'
ticks_of_nanos_unique κs a r r' x x' p q = p ∙ sym q

pub measure_unique : (κs : _) (a : _) (r r' : _) (x x' : _) → measure.Post κs a r x → measure.Post κs a r' x' → r ≡ r'
measure_unique κs a r r' x x' p q = p ∙ sym q

pub overdue_unique : (κs : _) (a : _) (r r' : _) (x x' : _) → overdue.Post κs a r x → overdue.Post κs a r' x' → r ≡ r'
overdue_unique κs a r r' x x' p q = p ∙ sym q

pub recovered_unique : (κs : _) (a : _) (r r' : _) (x x' : _) → recovered.Post κs a r x → recovered.Post κs a r' x' → r ≡ r'
recovered_unique κs a r r' x x' p q = p ∙ sym q

pub network_type_unique : (κs : _) (a : _) (r r' : _) (x x' : _) → network-type.Post κs a r x → network-type.Post κs a r' x' → r ≡ r'
network_type_unique κs a r r' x x' p q = p.is ∙ sym q.is

pub most_of_unique : (κs : _) (a : _) (r r' : _) (x x' : _) → most-of.Post κs a r x → most-of.Post κs a r' x' → r ≡ r'
most_of_unique κs a r r' x x' p q = p.is ∙ sym q.is

pub item_len_unique : (κs : _) (a : _) (r r' : _) (x x' : _) → item-len.Post κs a r x → item-len.Post κs a r' x' → r ≡ r'
item_len_unique κs a r r' x x' p q = p.is ∙ sym q.is

pub word-at_unique : (κs : _) (a : _) (r r' : _) (x x' : _) → word_at.Post κs a r x → word_at.Post κs a r' x' → r ≡ r'
word-at_unique κs a r r' x x' p q = p.is ∙ sym q.is

pub nanos_of_ticks_unique : (κs : _) (a : _) (r r' : _) (x x' : _) → nanos-of-ticks.Post κs a r x → nanos-of-ticks.Post κs a r' x' → r ≡ r'
nanos_of_ticks_unique κs a r r' x x' p q = ap (λ (n : ℕ). record { 0 = n }) (p.is ∙ sym q.is)

pub millis_of_nanos_unique : (κs : _) (a : _) (r r' : _) (x x' : _) → millis-of-nanos.Post κs a r x → millis-of-nanos.Post κs a r' x' → r ≡ r'
millis_of_nanos_unique κs a r r' x x' p q = ap (λ (n : ℕ). record { 0 = n }) (p.is ∙ sym q.is)

pub nanos_of_millis_unique : (κs : _) (a : _) (r r' : _) (x x' : _) → nanos-of-millis.Post κs a r x → nanos-of-millis.Post κs a r' x' → r ≡ r'
nanos_of_millis_unique κs a r r' x x' p q = ap (λ (n : ℕ). record { 0 = n }) (p.is ∙ sym q.is)

pub put_be_unique : (κs : _) (a : _) (r r' : _) (x x' : _) → put-be.Post κs a r x → put-be.Post κs a r' x' → (r ≡ r') × (x.0.now ≡ x'.0.now)
put_be_unique κs a r r' x x' p q = (p.answer ∙ sym q.answer, p.list ∙ sym q.list)

pub put_bytes_unique : (κs : _) (a : _) (r r' : _) (x x' : _) → put-bytes.Post κs a r x → put-bytes.Post κs a r' x' → (r ≡ r') × (x.0.now ≡ x'.0.now)
put_bytes_unique κs a r r' x x' p q = (p.answer ∙ sym q.answer, p.list ∙ sym q.list)

pub write_item_unique : (κs : _) (a : _) (r r' : _) (x x' : _) → write-item.Post κs a r x → write-item.Post κs a r' x' → (r ≡ r') × (x.0.now ≡ x'.0.now)
write_item_unique κs a r r' x x' p q = (p.answer ∙ sym q.answer, p.list ∙ sym q.list)

pub write_header_unique : (κs : _) (a : _) (r r' : _) (x x' : _) → write-header.Post κs a r x → write-header.Post κs a r' x' → (r ≡ r') × (x.0.now ≡ x'.0.now)
write_header_unique κs a r r' x x' p q = (p.answer ∙ sym q.answer, p.list ∙ sym q.list)

pub part_at_unique : (κs : _) (a : _) (r r' : _) (x x' : _) → part_at.Post κs a r x → part_at.Post κs a r' x' → r.now ≡ r'.now
part_at_unique κs a r r' x x' p q = p ∙ sym q
