-- The header of a frame (docs/RULES.md, "Frame bytes"; Specification of Bus Mirroring, 7.4.2.1), and its refusals in their order.
use Rattle.std.specs.Prelude.{ℕ, ◌+◌, ◌-◌, List, [], ◌∷◌, ◌++◌, length, get_or, ltb, leb, eqb, Result, Ok, Err}
use Rattle.codec.specs.Choice.{pick}
use Rattle.codec.specs.Number.{be, word, word_at}
use Rattle.codec.specs.declared.refusal.Refusal.{Refusal}
use Rattle.codec.specs.declared.time.Time.{Time}
use Rattle.codec.specs.declared.header.Header.{Header}

-- version 1, sequence number, header time (seconds 6, nanoseconds 4), DataLength (SWS_Mirror_00055 to 00063)
unfoldable pub header_bytes : Header → List ℕ
header_bytes h = (1 ∷ h.sequence ∷ []) ++ be 6 h.time.sec ++ be 4 h.time.nano ++ be 2 h.length

-- the time at an index: seconds (6), nanoseconds (4); what is past the bytes counts as zero
unfoldable pub time_at : List ℕ → ℕ → Time
time_at s at = record { sec = word_at 6 s at; nano = word_at 4 s (at + 6) }

-- the header that 14 bytes are
abbrev pub header_in : List ℕ → Header
header_in s = record { sequence = get_or s 1 0; time = record { sec = word 6 s 2; nano = word 4 s 8 }; length = word 2 s 12 }

-- 20 under 14 bytes; 21 version; 28 nanoseconds; 22 DataLength isn't the rest
unfoldable pub read_header : List ℕ → Result Header Refusal
read_header s =
    pick (ltb (length s) 14) (Err Refusal.Short)
    (pick (eqb (get_or s 0 0) 1)
    (pick (leb (word 4 s 8) 999999999)
    (pick (eqb (word 2 s 12) (length s - 14)) (Ok (header_in s)) (Err Refusal.Length))
    (Err Refusal.Nanos))
    (Err Refusal.Version))
