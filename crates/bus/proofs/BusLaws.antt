-- Laws of filters, sources, reports and updates. Assumes nothing.
use Prim.Native.Nat.{ℕ, suc, ◌+◌, ◌*◌, ◌%◌, ◌^◌, ◌≤◌, ◌<◌}
use mathlib.Core.Path.{◌≡◌, refl, sym, ◌∙◌}
use mathlib.Core.Bool.{Bool, true, false, not, ◌&&◌, ◌||◌}
use mathlib.Core.List.{List, [], ◌∷◌, map}
use native.Mathlib.Omega.{arith}
use lib.ListN.{length, length-map}
use lib.Dec.{leb, ltb}
use lib.Bits.{bit_or, or_shifted}
use mir.Val.{bool_byte}
use borrow.Author.Tests.{le-ltb, ltb-true, ltb-false, leb-true, not-true}
use Rattle.codec.specs.Choice.{pick, bit}
use Rattle.codec.specs.Number.{Below}
use Rattle.codec.specs.Time.{time_ok}
use Rattle.codec.specs.Ident.{kind_of, most_of, channels_ok}
use Rattle.codec.specs.Item.{item_length}
use Rattle.codec.specs.declared.time.Time.{Time}
use Rattle.codec.specs.declared.ident.Kind.TheVariants as Kind
use Rattle.codec.specs.declared.ident.Ident.{Ident}
use Rattle.std.specs.Prelude.{Some, None, cond}
use Rattle.std.specs.Prelude.{Ok}
use Rattle.framer.specs.Cause.{guard}
use Rattle.framer.specs.declared.cause.Cause.{Cause}
use Rattle.framer.proofs.FramerLaws.{passed-guard}
use Rattle.bus.specs.Filter.{matches, filtered, is_free, same_kind}
use Rattle.std.specs.List.{list_any, position_or_len}
use Rattle.bus.specs.Source.{passes, free_at, free_in, add_cause}
use Rattle.bus.specs.Report.{error_bits, error_report, too_big, report_cause}
use Rattle.bus.specs.Update.{update_cause}
use Rattle.bus.specs.declared.filter.Filter.{Filter}
use Rattle.bus.specs.declared.filter.Addition.{Addition}
use Rattle.bus.specs.declared.source.Source.{Source}
use Rattle.bus.specs.declared.report.Report.{Report}
use Rattle.bus.specs.declared.update.Update.{Update}

-- what `search` needs for the length of a field that is an array of structs
pub length_mapped : {X Y : Type 0} (f : X → Y) (l : List X) (n : ℕ) → length (map f l) ≡ n → length l ≡ n
length_mapped f l n e = sym (length-map l f) ∙ e

-- a walk over the places
pub any_passes : (ps : List Filter) (id : Ident) → list_any (λ (p : Filter). matches p id) ps ≡ passes ps id
any_passes [] id = refl
any_passes (p ∷ ps) id = rw (any_passes ps id)

pub position_free : (ps : List Filter) → position_or_len (λ (p : Filter). is_free p) ps ≡ free_at ps
position_free [] = refl
position_free (p ∷ ps) = rw (position_free ps) (go (is_free p))
  where
    go : (b : Bool) → cond (not b) (1 + free_at ps) 0 ≡ pick b 0 (suc (free_at ps))
    go true = refl
    go false = omega arith

pub free_found : (ps : List Filter) (n : ℕ) → n ≡ position_or_len (λ (p : Filter). is_free p) ps → length ps ≡ 8
    → cond (ltb n (length ps)) (Some n) None ≡ free_in ps
unfolding free_in
free_found ps n e h = rw (e, position_free ps, h) (go (ltb (free_at ps) 8))
  where
    go : (b : Bool) → cond b (Some (free_at ps)) None ≡ pick b (Some (free_at ps)) None
    go true = refl
    go false = refl

-- ids that each filter treats alike, and ids that none matches
pub passes_alike : (ps : List Filter) (a b : Ident) → ((f : Filter) → matches f a ≡ matches f b) → passes ps a ≡ passes ps b
passes_alike [] a b e = refl
passes_alike (p ∷ ps) a b e = rw (e p, passes_alike ps a b e)

pub passes_none : (ps : List Filter) (id : Ident) → ((f : Filter) → matches f id ≡ false) → passes ps id ≡ false
passes_none [] id e = refl
passes_none (p ∷ ps) id e = rw (e p, passes_none ps id e)

-- a flag in its place
bit_small : (b : Bool) → bool_byte b < 2
bit_small true = omega arith
bit_small false = omega arith

byte_bit : (b : Bool) → bool_byte b ≡ bit b
byte_bit true = refl
byte_bit false = refl

-- the state byte of CAN and of FlexRay out of its parts
can_sum : (p o n : ℕ) → p < 2 → o < 2 → n < 16 → bit_or (bit_or (bit_or 64 (p * 2 ^ 5 % 2 ^ 8)) (o * 2 ^ 4 % 2 ^ 8)) n ≡ 64 + p * 32 + o * 16 + n
can_sum p o n hp ho hn =
    let a : p * 2 ^ 5 % 2 ^ 8 ≡ p * 2 ^ 5 = omega arith in
    let b : o * 2 ^ 4 % 2 ^ 8 ≡ o * 2 ^ 4 = omega arith in
    let c : bit_or 64 (p * 2 ^ 5) ≡ (2 + p) * 2 ^ 5 = or_shifted 1 6 (p * 2 ^ 5) (omega arith) ∙ omega arith in
    let d : bit_or ((2 + p) * 2 ^ 5) (o * 2 ^ 4) ≡ (4 + p * 2 + o) * 2 ^ 4 = or_shifted (2 + p) 5 (o * 2 ^ 4) (omega arith) ∙ omega arith in
    rw (a, b, c, d) (or_shifted (4 + p * 2 + o) 4 n (omega arith) ∙ omega arith)

pub can_made : {x n : ℕ} (p o : Bool) → Below x 16 n
    → bit_or (bit_or (bit_or 64 (bool_byte p * 2 ^ 5 % 2 ^ 8)) (bool_byte o * 2 ^ 4 % 2 ^ 8)) n ≡ 64 + bit p * 32 + bit o * 16 + x
can_made {x} {n} p o k = can_sum (bool_byte p) (bool_byte o) n (bit_small p) (bit_small o) k.below ∙ rw (byte_bit p, byte_bit o, k.is)

-- what an accepted report passed
pub record Passed (count f : ℕ) (s : Source) (r : Report) (n : ℕ) : Type 0 where
  pub time : time_ok r.time ≡ true
  pub source : r.source < count
  pub kind : same_kind s.kind (kind_of r.ident) ≡ true
  pub started : s.started ≡ true
  pub ranged : r.ranged ≡ true
  pub most : n ≤ most_of r.ident
  pub passes : filtered r.ident ≡ true → passes s.places r.ident ≡ true
  pub fits : 14 + item_length (record { offset = record { 0 = 0 }; network = 0; state = Some 0; ident = r.ident; carries = r.carries }) n ≤ f

pub cause_passed : (count f : ℕ) (s : Source) (r : Report) (n : ℕ) → report_cause count f s r n ≡ Ok tt → Passed count f s r n
unfolding report_cause too_big
cause_passed count f s r n e =
    let z7 = passed-guard (time_ok r.time) Cause.BadTime _ tt e in
    let z2 = passed-guard (ltb r.source count) Cause.NoSource _ tt z7.1 in
    let z4 = passed-guard (same_kind s.kind (kind_of r.ident)) Cause.OtherKind _ tt z2.1 in
    let z3 = passed-guard s.started Cause.NotStarted _ tt z4.1 in
    let z5 = passed-guard r.ranged Cause.OutOfRange _ tt z3.1 in
    let z6 = passed-guard (leb n (most_of r.ident)) Cause.PayloadTooLong _ tt z5.1 in
    let z1 = passed-guard (not (filtered r.ident) || passes s.places r.ident) Cause.Unmatched _ tt z6.1 in
    let z8 = passed-guard (not (too_big f r n)) Cause.TooBig _ tt z1.1 in
    record {
      time = z7.0;
      source = ltb-true r.source count z2.0;
      kind = z4.0;
      started = z3.0;
      ranged = z5.0;
      most = leb-true n (most_of r.ident) z6.0;
      passes = λ a. rw a at z1.0;
      fits = ltb-false f (14 + item_length (record { offset = record { 0 = 0 }; network = 0; state = Some 0; ident = r.ident; carries = r.carries }) n) (not-true _ z8.0);
    }

-- an error without a frame is refused with 7, 2, 4, 3 or 5: it has no payload, no filter is asked, and it fits every frame
pub error_cause : (count f : ℕ) (s : Source) (source : ℕ) (t : Time) (channels bits : ℕ) → 22 ≤ f
    → report_cause count f s (error_report source t channels bits) 0
    ≡ guard (time_ok t) Cause.BadTime
    (guard (ltb source count) Cause.NoSource
    (guard (same_kind s.kind Kind.FlexRay) Cause.OtherKind
    (guard s.started Cause.NotStarted
    (guard (channels_ok channels && error_bits bits) Cause.OutOfRange
    (Ok tt)))))
unfolding report_cause too_big error_report
error_cause count f s source t channels bits h = rw (le-ltb f 22 h)

-- what an accepted state update passed
pub record Updates (count : ℕ) (s : Source) (u : Update) : Type 0 where
  pub source : u.source < count
  pub kind : same_kind s.kind u.kind ≡ true
  pub started : s.started ≡ true
  pub good : u.good ≡ true

pub update_passed : (count : ℕ) (s : Source) (u : Update) → update_cause count s u ≡ Ok tt → Updates count s u
unfolding update_cause
update_passed count s u e =
    let z2 = passed-guard (ltb u.source count) Cause.NoSource _ tt e in
    let z4 = passed-guard (same_kind s.kind u.kind) Cause.OtherKind _ tt z2.1 in
    let z3 = passed-guard s.started Cause.NotStarted _ tt z4.1 in
    let z5 = passed-guard u.good Cause.OutOfRange _ tt z3.1 in
    record { source = ltb-true u.source count z2.0; kind = z4.0; started = z3.0; good = z5.0 }

-- what an accepted filter passed
pub record Adds (count : ℕ) (s : Source) (a : Addition) : Type 0 where
  pub source : a.source < count
  pub kind : same_kind s.kind a.kind ≡ true
  pub good : a.good ≡ true
  pub room : free_at s.places < 8

pub add-passed : (count : ℕ) (s : Source) (a : Addition) → add_cause count s a ≡ Ok tt → Adds count s a
unfolding add_cause
add-passed count s a e =
    let z2 = passed-guard (ltb a.source count) Cause.NoSource _ tt e in
    let z4 = passed-guard (same_kind s.kind a.kind) Cause.OtherKind _ tt z2.1 in
    let z9 = passed-guard a.good Cause.BadFilter _ tt z4.1 in
    let z10 = passed-guard (ltb (free_at s.places) 8) Cause.NoPlace _ tt z9.1 in
    record { source = ltb-true a.source count z2.0; kind = z4.0; good = z9.0; room = ltb-true (free_at s.places) 8 z10.0 }

-- an accepted filter has one of eight places
pub add-room : (count : ℕ) (s : Source) (a : Addition) → add_cause count s a ≡ Ok tt → length s.places ≡ 8 → free_at s.places < 8
add-room count s a e h = (add-passed count s a e).room

-- the lowest free place is within the list, or just past it
pub free_most : (ps : List Filter) → free_at ps ≤ length ps
free_most [] = omega arith
free_most (p ∷ ps) = step (is_free p) (free_at ps) (length ps) (free_most ps)
  where
    step : (b : Bool) (x n : ℕ) → x ≤ n → pick b 0 (suc x) ≤ suc n
    step true x n h = omega arith
    step false x n h = omega arith
