-- What reading the fields of an item finds, left to right, missing bytes before a wrong value
-- (docs/RULES.md, "Reading a frame").
use Rattle.std.specs.Prelude.{ℕ, ◌+◌, ◌*◌, ◌/◌, ◌%◌, Bool, ◌&&◌, List, [], take, drop, get_or, ltb, eqb, Option, Some, None, Result, Ok, Err}
use Rattle.codec.specs.Choice.{pick, opened, then}
use Rattle.codec.specs.Number.{fits, get_of, part_of}
use Rattle.codec.specs.Ident.{kind_in, can_zero, can_range, pid_ok, channels_ok, flexray_range, most_of}
use Rattle.codec.specs.Item.{set_ok, alone_in, state_ok}
use Rattle.codec.specs.declared.refusal.Refusal.{Refusal}
use Rattle.codec.specs.declared.ident.Kind.{Kind}
use Rattle.codec.specs.declared.ident.Ident.{Ident}
use Rattle.codec.specs.declared.field.Load.{Load}
use Rattle.codec.specs.declared.field.Decoded.{Decoded}

-- 24 network type, then 26 flags
unfoldable pub read_flags : List ℕ → ℕ → Result (Kind × ℕ × ℕ) Refusal
read_flags s at =
    opened (get_of 1 s at)
    (λ (b, next). then (kind_in (b % 32))
    (λ kind. pick (set_ok (b / 32)) (Ok (kind, b / 32, next)) (Err Refusal.Flags)))
    (Err Refusal.Missing)

-- 25 LIN state bits
unfoldable pub read_state : List ℕ → ℕ → Kind → Bool → Result (Option ℕ × ℕ) Refusal
read_state s at kind present =
    pick present
    (opened (get_of 1 s at)
    (λ (b, next). pick (state_ok kind (Some b)) (Ok (Some b, next)) (Err Refusal.Reserved))
    (Err Refusal.Missing))
    (Ok (None, at))

-- 25 CAN bit 29, then 29 id
unfoldable pub can_ident : ℕ → ℕ → Result (Ident × ℕ) Refusal
can_ident key next =
    pick (can_zero key)
    (pick (can_range key) (Ok (Ident.Can key, next)) (Err Refusal.Range))
    (Err Refusal.Reserved)

unfoldable pub read_can : List ℕ → ℕ → Result (Ident × ℕ) Refusal
read_can s at = opened (get_of 4 s at) (λ (key, next). can_ident key next) (Err Refusal.Missing)

-- 29 LIN parity
unfoldable pub lin_ident : ℕ → ℕ → Result (Ident × ℕ) Refusal
lin_ident pid next = pick (pid_ok pid) (Ok (Ident.Lin pid, next)) (Err Refusal.Range)

unfoldable pub read_lin : List ℕ → ℕ → Result (Ident × ℕ) Refusal
read_lin s at = opened (get_of 1 s at) (λ (pid, next). lin_ident pid next) (Err Refusal.Missing)

-- 29 channel, slot and cycle of a FlexRay frame
unfoldable pub frame_ident : ℕ → ℕ → ℕ → ℕ → Result (Ident × ℕ) Refusal
frame_ident channels slot cycle next =
    pick (flexray_range channels slot cycle) (Ok (Ident.FlexRay channels slot cycle, next)) (Err Refusal.Range)

-- 29 channel of an error without a frame, and any slot or cycle
unfoldable pub error_ident : ℕ → ℕ → ℕ → ℕ → Result (Ident × ℕ) Refusal
error_ident channels slot cycle next =
    pick (channels_ok channels && eqb slot 0 && eqb cycle 0) (Ok (Ident.FlexRayError channels, next)) (Err Refusal.Range)

-- 25 FlexRay bits 5 and 4, or bit 3 clear where the flags are not state and id alone; bit 3 tells a frame, which has slot and
-- cycle, from an error without one (SWS_Mirror_00159)
unfoldable pub flexray_ident : Bool → ℕ → ℕ → ℕ → ℕ → Result (Ident × ℕ) Refusal
flexray_ident alone front low cycle next =
    pick (eqb (front / 8 % 8) 1) (frame_ident (front / 64) (front % 8 * 256 + low) cycle next)
    (pick (alone && eqb (front / 8 % 8) 0) (error_ident (front / 64) (front % 8 * 256 + low) cycle next)
    (Err Refusal.Reserved))

unfoldable pub read_flexray : List ℕ → ℕ → Bool → Result (Ident × ℕ) Refusal
read_flexray s at alone =
    opened (part_of s at 3)
    (λ next. flexray_ident alone (get_or s at 0) (get_or s (at + 1) 0) (get_or s (at + 2) 0) next)
    (Err Refusal.Missing)

abbrev pub ident_as : Kind → List ℕ → ℕ → Bool → Result (Ident × ℕ) Refusal
ident_as Kind.Can s at alone = read_can s at
ident_as Kind.Lin s at alone = read_lin s at
ident_as Kind.FlexRay s at alone = read_flexray s at alone

unfoldable pub read_ident : List ℕ → ℕ → Kind → Bool → Bool → Result (Ident × ℕ) Refusal
read_ident s at kind present alone = pick present (ident_as kind s at alone) (Ok (Ident.Bare kind, at))

-- 27 payload length; an item without payload has an empty part
unfoldable pub read_load : List ℕ → ℕ → ℕ → Bool → Result Load Refusal
read_load s at most present =
    pick present
    (opened (get_of 1 s at)
    (λ (n, start). pick (ltb most n) (Err Refusal.Payload)
    (opened (part_of s start n) (λ next. Ok (record { start = start; len = n; next = next })) (Err Refusal.Missing)))
    (Err Refusal.Missing))
    (Ok (record { start = at; len = 0; next = at }))

-- offset, flags, network id, state, frame id, payload
unfoldable pub read_item : List ℕ → ℕ → Result Decoded Refusal
read_item s at =
    opened (get_of 2 s at) (λ (ticks, a).
    then (read_flags s a) (λ (kind, set, b).
    opened (get_of 1 s b) (λ (network, d).
    then (read_state s d kind (eqb (set / 4 % 2) 1)) (λ (state, e).
    then (read_ident s e kind (eqb (set / 2 % 2) 1) (alone_in set)) (λ (ident, f).
    then (read_load s f (most_of ident) (eqb (set % 2) 1)) (λ load.
    Ok (record {
      item = record { offset = record { 0 = ticks }; network = network; state = state; ident = ident; carries = eqb (set % 2) 1 };
      start = load.start;
      len = load.len;
      next = load.next;
    })))))
    (Err Refusal.Missing)))
    (Err Refusal.Missing)

-- the n bytes of s from index start, or nothing where they are not all there
unfoldable pub bytes_at : List ℕ → ℕ → ℕ → List ℕ
bytes_at s start n = pick (fits s start n) (take n (drop start s)) []
