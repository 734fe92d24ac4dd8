-- The rows P1 to P9 (docs/RULES.md, "Worked examples"), and the table of all. One statement about the definitions holds of the whole
-- table.
use Rattle.std.specs.Prelude.{ℕ, ◌≡◌, true, false, List, [], ◌∷◌}
use Rattle.mirror.specs.Engine.{fresh_engine}
use Rattle.mirror.specs.Call.{said_of}
use Rattle.mirror.specs.Call.{setup, start, can, lin, flexray, can-state, can-range, lin-range, slots, tick, take, discards}
use Rattle.mirror.specs.Row.{Row, at, room, ok, number, refused, taken}
use Rattle.mirror.specs.LaterVectors.{p10, p11, p12, p13}

-- P1: F 64, Q 1, D 1, one CAN source, id 5, started, a filter matching all. At 16 s, standard id 0x123, payload 01 02.
-- Update: online, counter 0. At 16 s + 20,833 ns, extended FD id 0x01ABCDEF, payload AA. Tick at 16 s + 999,999 ns: nothing
-- (a take says 13). Tick at 16 s + 1,000,000 ns, then take, 36 bytes; the four bytes of output behind them stay
abbrev p1_frame : List ℕ
p1_frame =
    0x01 ∷ 0x00 ∷ 0x00 ∷ 0x00 ∷ 0x00 ∷ 0x00 ∷ 0x00 ∷ 0x10 ∷ 0x00 ∷ 0x00 ∷ 0x00 ∷ 0x00 ∷ 0x00 ∷ 0x16
    ∷ 0x00 ∷ 0x00 ∷ 0x61 ∷ 0x05 ∷ 0x00 ∷ 0x00 ∷ 0x01 ∷ 0x23 ∷ 0x02 ∷ 0x01 ∷ 0x02
    ∷ 0x00 ∷ 0x02 ∷ 0xe1 ∷ 0x05 ∷ 0x40 ∷ 0xc1 ∷ 0xab ∷ 0xcd ∷ 0xef ∷ 0x01 ∷ 0xaa
    ∷ []

abbrev pub p1 : Row
p1 = record {
  calls =
      setup 64 1 1 (1 ∷ 5 ∷ []) ∷ start 0 ∷ can-range 0 0 0xffffffff
      ∷ can 0 (at 16 0) 0x123 (0x01 ∷ 0x02 ∷ [])
      ∷ can-state 0 true false false 0
      ∷ can 0 (at 16 20833) 0xc1abcdef (0xaa ∷ [])
      ∷ tick (at 16 999999)
      ∷ take (room 40)
      ∷ tick (at 16 1000000)
      ∷ take (room 40)
      ∷ [];
  said =
      ok ∷ ok ∷ number 0
      ∷ ok
      ∷ ok
      ∷ ok
      ∷ ok
      ∷ record { answer = 13; number = 0; output = room 40 }
      ∷ ok
      ∷ taken p1_frame 4
      ∷ [];
}

-- P2: difference 9,999 gives 0; 10,000 gives 1 (nanoseconds after the header time; the offset is an item's first two bytes)
abbrev p2_frame : List ℕ
p2_frame =
    0x01 ∷ 0x00 ∷ 0x00 ∷ 0x00 ∷ 0x00 ∷ 0x00 ∷ 0x00 ∷ 0x01 ∷ 0x00 ∷ 0x00 ∷ 0x00 ∷ 0x00 ∷ 0x00 ∷ 0x1e
    ∷ 0x00 ∷ 0x00 ∷ 0x61 ∷ 0x05 ∷ 0x00 ∷ 0x00 ∷ 0x01 ∷ 0x23 ∷ 0x01 ∷ 0x01
    ∷ 0x00 ∷ 0x00 ∷ 0x61 ∷ 0x05 ∷ 0x00 ∷ 0x00 ∷ 0x01 ∷ 0x23 ∷ 0x01 ∷ 0x02
    ∷ 0x00 ∷ 0x01 ∷ 0x61 ∷ 0x05 ∷ 0x00 ∷ 0x00 ∷ 0x01 ∷ 0x23 ∷ 0x01 ∷ 0x03
    ∷ []

abbrev pub p2 : Row
p2 = record {
  calls =
      setup 64 1 1 (1 ∷ 5 ∷ []) ∷ start 0 ∷ can-range 0 0 0xffffffff
      ∷ can 0 (at 1 0) 0x123 (0x01 ∷ [])
      ∷ can 0 (at 1 9999) 0x123 (0x02 ∷ [])
      ∷ can 0 (at 1 10000) 0x123 (0x03 ∷ [])
      ∷ tick (at 1 1000000)
      ∷ take (room 44)
      ∷ [];
  said =
      ok ∷ ok ∷ number 0
      ∷ ok
      ∷ ok
      ∷ ok
      ∷ ok
      ∷ taken p2_frame 0
      ∷ [];
}

-- P3: 655,359,999 gives 65,535, same frame; 655,360,000 starts a new one
abbrev p3-first : List ℕ
p3-first =
    0x01 ∷ 0x00 ∷ 0x00 ∷ 0x00 ∷ 0x00 ∷ 0x00 ∷ 0x00 ∷ 0x01 ∷ 0x00 ∷ 0x00 ∷ 0x00 ∷ 0x00 ∷ 0x00 ∷ 0x14
    ∷ 0x00 ∷ 0x00 ∷ 0x61 ∷ 0x05 ∷ 0x00 ∷ 0x00 ∷ 0x01 ∷ 0x23 ∷ 0x01 ∷ 0x01
    ∷ 0xff ∷ 0xff ∷ 0x61 ∷ 0x05 ∷ 0x00 ∷ 0x00 ∷ 0x01 ∷ 0x23 ∷ 0x01 ∷ 0x02
    ∷ []

abbrev p3_second : List ℕ
p3_second =
    0x01 ∷ 0x01 ∷ 0x00 ∷ 0x00 ∷ 0x00 ∷ 0x00 ∷ 0x00 ∷ 0x01 ∷ 0x27 ∷ 0x10 ∷ 0x00 ∷ 0x00 ∷ 0x00 ∷ 0x0a
    ∷ 0x00 ∷ 0x00 ∷ 0x61 ∷ 0x05 ∷ 0x00 ∷ 0x00 ∷ 0x01 ∷ 0x23 ∷ 0x01 ∷ 0x03
    ∷ []

abbrev pub p3 : Row
p3 = record {
  calls =
      setup 64 2 1 (1 ∷ 5 ∷ []) ∷ start 0 ∷ can-range 0 0 0xffffffff
      ∷ can 0 (at 1 0) 0x123 (0x01 ∷ [])
      ∷ can 0 (at 1 655359999) 0x123 (0x02 ∷ [])
      ∷ can 0 (at 1 655360000) 0x123 (0x03 ∷ [])
      ∷ tick (at 1 656360000)
      ∷ take (room 34)
      ∷ take (room 24)
      ∷ [];
  said =
      ok ∷ ok ∷ number 0
      ∷ ok
      ∷ ok
      ∷ ok
      ∷ ok
      ∷ taken p3-first 0
      ∷ taken p3_second 0
      ∷ [];
}

-- P4: from 9 s 999,999,000 ns to 10 s 9,000 ns: 1
abbrev p4_frame : List ℕ
p4_frame =
    0x01 ∷ 0x00 ∷ 0x00 ∷ 0x00 ∷ 0x00 ∷ 0x00 ∷ 0x00 ∷ 0x09 ∷ 0x3b ∷ 0x9a ∷ 0xc6 ∷ 0x18 ∷ 0x00 ∷ 0x14
    ∷ 0x00 ∷ 0x00 ∷ 0x61 ∷ 0x05 ∷ 0x00 ∷ 0x00 ∷ 0x01 ∷ 0x23 ∷ 0x01 ∷ 0x01
    ∷ 0x00 ∷ 0x01 ∷ 0x61 ∷ 0x05 ∷ 0x00 ∷ 0x00 ∷ 0x01 ∷ 0x23 ∷ 0x01 ∷ 0x02
    ∷ []

abbrev pub p4 : Row
p4 = record {
  calls =
      setup 64 1 1 (1 ∷ 5 ∷ []) ∷ start 0 ∷ can-range 0 0 0xffffffff
      ∷ can 0 (at 9 999999000) 0x123 (0x01 ∷ [])
      ∷ can 0 (at 10 9000) 0x123 (0x02 ∷ [])
      ∷ tick (at 10 999000)
      ∷ take (room 34)
      ∷ [];
  said =
      ok ∷ ok ∷ number 0
      ∷ ok
      ∷ ok
      ∷ ok
      ∷ taken p4_frame 0
      ∷ [];
}

-- P5: one nanosecond before the header time: new frame, offset 0, and the report tells it
abbrev p5-first : List ℕ
p5-first =
    0x01 ∷ 0x00 ∷ 0x00 ∷ 0x00 ∷ 0x00 ∷ 0x00 ∷ 0x00 ∷ 0x02 ∷ 0x00 ∷ 0x00 ∷ 0x00 ∷ 0x00 ∷ 0x00 ∷ 0x0a
    ∷ 0x00 ∷ 0x00 ∷ 0x61 ∷ 0x05 ∷ 0x00 ∷ 0x00 ∷ 0x01 ∷ 0x23 ∷ 0x01 ∷ 0x01
    ∷ []

abbrev p5_second : List ℕ
p5_second =
    0x01 ∷ 0x01 ∷ 0x00 ∷ 0x00 ∷ 0x00 ∷ 0x00 ∷ 0x00 ∷ 0x01 ∷ 0x3b ∷ 0x9a ∷ 0xc9 ∷ 0xff ∷ 0x00 ∷ 0x0a
    ∷ 0x00 ∷ 0x00 ∷ 0x61 ∷ 0x05 ∷ 0x00 ∷ 0x00 ∷ 0x01 ∷ 0x23 ∷ 0x01 ∷ 0x02
    ∷ []

abbrev pub p5 : Row
p5 = record {
  calls =
      setup 64 2 1 (1 ∷ 5 ∷ []) ∷ start 0 ∷ can-range 0 0 0xffffffff
      ∷ can 0 (at 2 0) 0x123 (0x01 ∷ [])
      ∷ can 0 (at 1 999999999) 0x123 (0x02 ∷ [])
      ∷ tick (at 2 999999)
      ∷ take (room 24)
      ∷ take (room 24)
      ∷ [];
  said =
      ok ∷ ok ∷ number 0
      ∷ ok
      ∷ number 1
      ∷ ok
      ∷ taken p5-first 0
      ∷ taken p5_second 0
      ∷ [];
}

-- P6: F 32: CAN 2.0 with 8 bytes enters; CAN FD with 9 answers 8
abbrev p6_frame : List ℕ
p6_frame =
    0x01 ∷ 0x00 ∷ 0x00 ∷ 0x00 ∷ 0x00 ∷ 0x00 ∷ 0x00 ∷ 0x01 ∷ 0x00 ∷ 0x00 ∷ 0x00 ∷ 0x00 ∷ 0x00 ∷ 0x11
    ∷ 0x00 ∷ 0x00 ∷ 0x61 ∷ 0x05 ∷ 0x00 ∷ 0x00 ∷ 0x01 ∷ 0x23 ∷ 0x08 ∷ 0x01 ∷ 0x02 ∷ 0x03 ∷ 0x04 ∷ 0x05 ∷ 0x06 ∷ 0x07 ∷ 0x08
    ∷ []

abbrev pub p6 : Row
p6 = record {
  calls =
      setup 32 1 1 (1 ∷ 5 ∷ []) ∷ start 0 ∷ can-range 0 0 0xffffffff
      ∷ can 0 (at 1 0) 0x123 (0x01 ∷ 0x02 ∷ 0x03 ∷ 0x04 ∷ 0x05 ∷ 0x06 ∷ 0x07 ∷ 0x08 ∷ [])
      ∷ can 0 (at 1 0) 0x40000123 (0x01 ∷ 0x02 ∷ 0x03 ∷ 0x04 ∷ 0x05 ∷ 0x06 ∷ 0x07 ∷ 0x08 ∷ 0x09 ∷ [])
      ∷ tick (at 1 1000000)
      ∷ take (room 31)
      ∷ [];
  said =
      ok ∷ ok ∷ number 0
      ∷ ok
      ∷ refused 8
      ∷ ok
      ∷ taken p6_frame 0
      ∷ [];
}

-- P7: both channels, slot 1,027, cycle 63: CC 03 3F
abbrev p7_frame : List ℕ
p7_frame =
    0x01 ∷ 0x00 ∷ 0x00 ∷ 0x00 ∷ 0x00 ∷ 0x00 ∷ 0x00 ∷ 0x01 ∷ 0x00 ∷ 0x00 ∷ 0x00 ∷ 0x00 ∷ 0x00 ∷ 0x09
    ∷ 0x00 ∷ 0x00 ∷ 0x63 ∷ 0x07 ∷ 0xcc ∷ 0x03 ∷ 0x3f ∷ 0x01 ∷ 0xaa
    ∷ []

abbrev pub p7 : Row
p7 = record {
  calls =
      setup 64 1 1 (3 ∷ 7 ∷ []) ∷ start 0 ∷ slots 0 0 2047 0 63 1
      ∷ flexray 0 (at 1 0) 3 1027 63 (0xaa ∷ [])
      ∷ tick (at 1 1000000)
      ∷ take (room 23)
      ∷ [];
  said =
      ok ∷ ok ∷ number 0
      ∷ ok
      ∷ ok
      ∷ taken p7_frame 0
      ∷ [];
}

-- P8: PID 0x7D has key 61: it passes a filter of 61 alone and not one of 60 alone. Counters 127, 128 and 255 all give 15; 7
-- gives 0: the low four bits of the state bytes 4F and 40, each shown by a tick because it differs from the one before
abbrev p8_frame : List ℕ
p8_frame =
    0x01 ∷ 0x00 ∷ 0x00 ∷ 0x00 ∷ 0x00 ∷ 0x00 ∷ 0x00 ∷ 0x01 ∷ 0x00 ∷ 0x00 ∷ 0x00 ∷ 0x00 ∷ 0x00 ∷ 0x21
    ∷ 0x00 ∷ 0x00 ∷ 0xe2 ∷ 0x01 ∷ 0x00 ∷ 0x7d ∷ 0x01 ∷ 0xaa
    ∷ 0x00 ∷ 0x00 ∷ 0x81 ∷ 0x05 ∷ 0x4f
    ∷ 0x00 ∷ 0x00 ∷ 0x81 ∷ 0x05 ∷ 0x40
    ∷ 0x00 ∷ 0x00 ∷ 0x81 ∷ 0x05 ∷ 0x4f
    ∷ 0x00 ∷ 0x00 ∷ 0x81 ∷ 0x05 ∷ 0x40
    ∷ 0x00 ∷ 0x00 ∷ 0x81 ∷ 0x05 ∷ 0x4f
    ∷ []

abbrev pub p8 : Row
p8 = record {
  calls =
      setup 64 1 1 (2 ∷ 1 ∷ 1 ∷ 5 ∷ []) ∷ start 0 ∷ start 1
      ∷ lin-range 0 60 60
      ∷ lin 0 (at 1 0) 0x7d 0 (0xaa ∷ [])
      ∷ lin-range 0 61 61
      ∷ lin 0 (at 1 0) 0x7d 0 (0xaa ∷ [])
      ∷ can-state 1 true false false 127 ∷ tick (at 1 0)
      ∷ can-state 1 true false false 7 ∷ tick (at 1 0)
      ∷ can-state 1 true false false 128 ∷ tick (at 1 0)
      ∷ can-state 1 true false false 7 ∷ tick (at 1 0)
      ∷ can-state 1 true false false 255 ∷ tick (at 1 0)
      ∷ tick (at 1 1000000)
      ∷ take (room 47)
      ∷ [];
  said =
      ok ∷ ok ∷ ok
      ∷ number 0
      ∷ refused 1
      ∷ number 1
      ∷ ok
      ∷ ok ∷ ok
      ∷ ok ∷ ok
      ∷ ok ∷ ok
      ∷ ok ∷ ok
      ∷ ok ∷ ok
      ∷ ok
      ∷ taken p8_frame 0
      ∷ [];
}

-- P9: Q 1, two closings untaken: the second is discarded, the next item has bit 7. The frames of sequence 0 and 2 are taken;
-- the state byte of the item after the loss is 80
abbrev p9-first : List ℕ
p9-first =
    0x01 ∷ 0x00 ∷ 0x00 ∷ 0x00 ∷ 0x00 ∷ 0x00 ∷ 0x00 ∷ 0x01 ∷ 0x00 ∷ 0x00 ∷ 0x00 ∷ 0x00 ∷ 0x00 ∷ 0x0a
    ∷ 0x00 ∷ 0x00 ∷ 0x61 ∷ 0x05 ∷ 0x00 ∷ 0x00 ∷ 0x01 ∷ 0x23 ∷ 0x01 ∷ 0x01
    ∷ []

abbrev p9_third : List ℕ
p9_third =
    0x01 ∷ 0x02 ∷ 0x00 ∷ 0x00 ∷ 0x00 ∷ 0x00 ∷ 0x00 ∷ 0x03 ∷ 0x00 ∷ 0x00 ∷ 0x00 ∷ 0x00 ∷ 0x00 ∷ 0x0b
    ∷ 0x00 ∷ 0x00 ∷ 0xe1 ∷ 0x05 ∷ 0x80 ∷ 0x00 ∷ 0x00 ∷ 0x01 ∷ 0x23 ∷ 0x01 ∷ 0x03
    ∷ []

abbrev pub p9 : Row
p9 = record {
  calls =
      setup 64 1 1 (1 ∷ 5 ∷ []) ∷ start 0 ∷ can-range 0 0 0xffffffff
      ∷ can 0 (at 1 0) 0x123 (0x01 ∷ [])
      ∷ tick (at 1 1000000)
      ∷ discards
      ∷ can 0 (at 2 0) 0x123 (0x02 ∷ [])
      ∷ tick (at 2 1000000)
      ∷ discards
      ∷ can 0 (at 3 0) 0x123 (0x03 ∷ [])
      ∷ take (room 24)
      ∷ tick (at 3 1000000)
      ∷ take (room 25)
      ∷ [];
  said =
      ok ∷ ok ∷ number 0
      ∷ ok
      ∷ ok
      ∷ number 0
      ∷ ok
      ∷ ok
      ∷ number 1
      ∷ ok
      ∷ taken p9-first 0
      ∷ ok
      ∷ taken p9_third 0
      ∷ [];
}

abbrev pub table : List Row
table = p1 ∷ p2 ∷ p3 ∷ p4 ∷ p5 ∷ p6 ∷ p7 ∷ p8 ∷ p9 ∷ p10 ∷ p11 ∷ p12 ∷ p13 ∷ []

-- what the calls of every row say is what stands beside them
abbrev pub Holds : List Row → Type 0
Holds [] = Unit
Holds (r ∷ rs) = (said_of fresh_engine r.calls ≡ r.said) × Holds rs
