-- The rows P10 to P13 (docs/RULES.md, "Worked examples"): a clock that steps back, sends that failed, errors without a frame.
use Rattle.std.specs.Prelude.{ℕ, true, false, List, [], ◌∷◌}
use Rattle.mirror.specs.Call.{setup, switch, offline, start, can, conflict, flexray-error, can-state, flexray-state, can-range, slots, tick, take, failed, discards, failures}
use Rattle.mirror.specs.Row.{Row, at, room, ok, number, refused, taken}

-- P10: the clock is set back by 4 ms: a tick tells it and closes nothing (a take says 13); a report that is refused does not tell
-- it; one that is accepted does, and starts a new frame, from which the next one is measured. Set back by 1 ns more: a tick that
-- adds nothing tells it, and so does the next one, which finds the same frame, shows the state, and so starts a new frame; a third
-- at the same time tells nothing, and neither does a tick before all of them once that frame has closed
abbrev p10-first : List ℕ
p10-first =
    0x01 ∷ 0x00 ∷ 0x00 ∷ 0x00 ∷ 0x00 ∷ 0x00 ∷ 0x00 ∷ 0x10 ∷ 0x00 ∷ 0x3d ∷ 0x09 ∷ 0x00 ∷ 0x00 ∷ 0x0a
    ∷ 0x00 ∷ 0x00 ∷ 0x61 ∷ 0x05 ∷ 0x00 ∷ 0x00 ∷ 0x01 ∷ 0x23 ∷ 0x01 ∷ 0x01
    ∷ []

abbrev p10_second : List ℕ
p10_second =
    0x01 ∷ 0x01 ∷ 0x00 ∷ 0x00 ∷ 0x00 ∷ 0x00 ∷ 0x00 ∷ 0x10 ∷ 0x00 ∷ 0x00 ∷ 0x00 ∷ 0x00 ∷ 0x00 ∷ 0x14
    ∷ 0x00 ∷ 0x00 ∷ 0x61 ∷ 0x05 ∷ 0x00 ∷ 0x00 ∷ 0x01 ∷ 0x23 ∷ 0x01 ∷ 0x02
    ∷ 0x00 ∷ 0x02 ∷ 0x61 ∷ 0x05 ∷ 0x00 ∷ 0x00 ∷ 0x01 ∷ 0x23 ∷ 0x01 ∷ 0x03
    ∷ []

abbrev p10_third : List ℕ
p10_third =
    0x01 ∷ 0x02 ∷ 0x00 ∷ 0x00 ∷ 0x00 ∷ 0x00 ∷ 0x00 ∷ 0x0f ∷ 0x3b ∷ 0x9a ∷ 0xc9 ∷ 0xff ∷ 0x00 ∷ 0x05
    ∷ 0x00 ∷ 0x00 ∷ 0x81 ∷ 0x05 ∷ 0x40
    ∷ []

abbrev pub p10 : Row
p10 = record {
  calls =
      setup 64 3 1 (1 ∷ 5 ∷ []) ∷ start 0 ∷ can-range 0 0 0xffffffff
      ∷ can 0 (at 16 4000000) 0x123 (0x01 ∷ [])
      ∷ tick (at 16 0)
      ∷ take (room 24)
      ∷ can 1 (at 16 0) 0x123 (0x02 ∷ [])
      ∷ can 0 (at 16 0) 0x123 (0x02 ∷ [])
      ∷ can 0 (at 16 20833) 0x123 (0x03 ∷ [])
      ∷ can-state 0 true false false 0
      ∷ tick (at 15 999999999)
      ∷ tick (at 15 999999999)
      ∷ tick (at 15 999999999)
      ∷ tick (at 16 999999)
      ∷ tick (at 15 0)
      ∷ take (room 24)
      ∷ take (room 34)
      ∷ take (room 19)
      ∷ [];
  said =
      ok ∷ ok ∷ number 0
      ∷ ok
      ∷ number 4000000
      ∷ record { answer = 13; number = 0; output = room 24 }
      ∷ refused 2
      ∷ number 4000000
      ∷ ok
      ∷ ok
      ∷ number 1
      ∷ number 1
      ∷ ok
      ∷ ok
      ∷ ok
      ∷ taken p10-first 0
      ∷ taken p10_second 0
      ∷ taken p10_third 0
      ∷ [];
}

-- P11: failed before any take, and while the first frame waits. That one is taken, and so is the second; while the third has one
-- item, failed is said of the second, twice: the next item has bit 7 and the one after it has not. The fourth frame is discarded
-- while the third waits; the third is taken and called failed: two losses, and bit 7 on the first item of the fifth frame alone.
-- A take that is refused brings nothing out
abbrev pub p11-first : List ℕ
p11-first =
    0x01 ∷ 0x00 ∷ 0x00 ∷ 0x00 ∷ 0x00 ∷ 0x00 ∷ 0x00 ∷ 0x01 ∷ 0x00 ∷ 0x00 ∷ 0x00 ∷ 0x00 ∷ 0x00 ∷ 0x0a
    ∷ 0x00 ∷ 0x00 ∷ 0x61 ∷ 0x05 ∷ 0x00 ∷ 0x00 ∷ 0x01 ∷ 0x23 ∷ 0x01 ∷ 0x01
    ∷ []

abbrev p11_second : List ℕ
p11_second =
    0x01 ∷ 0x01 ∷ 0x00 ∷ 0x00 ∷ 0x00 ∷ 0x00 ∷ 0x00 ∷ 0x02 ∷ 0x00 ∷ 0x00 ∷ 0x00 ∷ 0x00 ∷ 0x00 ∷ 0x0a
    ∷ 0x00 ∷ 0x00 ∷ 0x61 ∷ 0x05 ∷ 0x00 ∷ 0x00 ∷ 0x01 ∷ 0x23 ∷ 0x01 ∷ 0x02
    ∷ []

abbrev p11_third : List ℕ
p11_third =
    0x01 ∷ 0x02 ∷ 0x00 ∷ 0x00 ∷ 0x00 ∷ 0x00 ∷ 0x00 ∷ 0x03 ∷ 0x00 ∷ 0x00 ∷ 0x00 ∷ 0x00 ∷ 0x00 ∷ 0x1f
    ∷ 0x00 ∷ 0x00 ∷ 0x61 ∷ 0x05 ∷ 0x00 ∷ 0x00 ∷ 0x01 ∷ 0x23 ∷ 0x01 ∷ 0x03
    ∷ 0x00 ∷ 0x02 ∷ 0xe1 ∷ 0x05 ∷ 0x80 ∷ 0x00 ∷ 0x00 ∷ 0x01 ∷ 0x23 ∷ 0x01 ∷ 0x04
    ∷ 0x00 ∷ 0x02 ∷ 0x61 ∷ 0x05 ∷ 0x00 ∷ 0x00 ∷ 0x01 ∷ 0x23 ∷ 0x01 ∷ 0x05
    ∷ []

abbrev pub p11_fifth : List ℕ
p11_fifth =
    0x01 ∷ 0x04 ∷ 0x00 ∷ 0x00 ∷ 0x00 ∷ 0x00 ∷ 0x00 ∷ 0x05 ∷ 0x00 ∷ 0x00 ∷ 0x00 ∷ 0x00 ∷ 0x00 ∷ 0x15
    ∷ 0x00 ∷ 0x00 ∷ 0xe1 ∷ 0x05 ∷ 0x80 ∷ 0x00 ∷ 0x00 ∷ 0x01 ∷ 0x23 ∷ 0x01 ∷ 0x07
    ∷ 0x00 ∷ 0x00 ∷ 0x61 ∷ 0x05 ∷ 0x00 ∷ 0x00 ∷ 0x01 ∷ 0x23 ∷ 0x01 ∷ 0x08
    ∷ []

abbrev pub p11 : Row
p11 = record {
  calls =
      setup 64 1 1 (1 ∷ 5 ∷ []) ∷ start 0 ∷ can-range 0 0 0xffffffff
      ∷ failed
      ∷ can 0 (at 1 0) 0x123 (0x01 ∷ [])
      ∷ tick (at 1 1000000)
      ∷ failed
      ∷ take (room 24)
      ∷ can 0 (at 2 0) 0x123 (0x02 ∷ [])
      ∷ tick (at 2 1000000)
      ∷ take (room 24)
      ∷ can 0 (at 3 0) 0x123 (0x03 ∷ [])
      ∷ failed ∷ failed ∷ failures
      ∷ can 0 (at 3 20833) 0x123 (0x04 ∷ [])
      ∷ can 0 (at 3 20833) 0x123 (0x05 ∷ [])
      ∷ tick (at 3 1000000)
      ∷ can 0 (at 4 0) 0x123 (0x06 ∷ [])
      ∷ tick (at 4 1000000)
      ∷ take (room 45)
      ∷ failed ∷ failures ∷ discards
      ∷ can 0 (at 5 0) 0x123 (0x07 ∷ [])
      ∷ can 0 (at 5 0) 0x123 (0x08 ∷ [])
      ∷ tick (at 5 1000000)
      ∷ take (room 34)
      ∷ failed
      ∷ take (room 35)
      ∷ [];
  said =
      ok ∷ ok ∷ number 0
      ∷ refused 17
      ∷ ok
      ∷ ok
      ∷ refused 17
      ∷ taken p11-first 0
      ∷ ok
      ∷ ok
      ∷ taken p11_second 0
      ∷ ok
      ∷ ok ∷ refused 17 ∷ number 1
      ∷ ok
      ∷ ok
      ∷ ok
      ∷ ok
      ∷ ok
      ∷ taken p11_third 0
      ∷ ok ∷ number 2 ∷ number 1
      ∷ ok
      ∷ ok
      ∷ ok
      ∷ record { answer = 12; number = 0; output = room 34 }
      ∷ refused 17
      ∷ taken p11_fifth 0
      ∷ [];
}

-- P12: a frame is taken; a take that is refused leaves it out, so it can be called failed. After offline the count is 0, and the
-- next item has no bit 7. Its frame is taken, and after offline it can no longer be called failed; neither can the next one after a
-- switch
abbrev p12-first : List ℕ
p12-first =
    0x01 ∷ 0x00 ∷ 0x00 ∷ 0x00 ∷ 0x00 ∷ 0x00 ∷ 0x00 ∷ 0x01 ∷ 0x00 ∷ 0x00 ∷ 0x00 ∷ 0x00 ∷ 0x00 ∷ 0x0a
    ∷ 0x00 ∷ 0x00 ∷ 0x61 ∷ 0x05 ∷ 0x00 ∷ 0x00 ∷ 0x01 ∷ 0x23 ∷ 0x01 ∷ 0x01
    ∷ []

abbrev p12_second : List ℕ
p12_second =
    0x01 ∷ 0x00 ∷ 0x00 ∷ 0x00 ∷ 0x00 ∷ 0x00 ∷ 0x00 ∷ 0x02 ∷ 0x00 ∷ 0x00 ∷ 0x00 ∷ 0x00 ∷ 0x00 ∷ 0x0a
    ∷ 0x00 ∷ 0x00 ∷ 0x61 ∷ 0x05 ∷ 0x00 ∷ 0x00 ∷ 0x01 ∷ 0x23 ∷ 0x01 ∷ 0x02
    ∷ []

abbrev p12_third : List ℕ
p12_third =
    0x01 ∷ 0x00 ∷ 0x00 ∷ 0x00 ∷ 0x00 ∷ 0x00 ∷ 0x00 ∷ 0x03 ∷ 0x00 ∷ 0x00 ∷ 0x00 ∷ 0x00 ∷ 0x00 ∷ 0x0a
    ∷ 0x00 ∷ 0x00 ∷ 0x61 ∷ 0x05 ∷ 0x00 ∷ 0x00 ∷ 0x01 ∷ 0x23 ∷ 0x01 ∷ 0x03
    ∷ []

abbrev pub p12 : Row
p12 = record {
  calls =
      setup 64 1 1 (1 ∷ 5 ∷ []) ∷ start 0 ∷ can-range 0 0 0xffffffff
      ∷ can 0 (at 1 0) 0x123 (0x01 ∷ [])
      ∷ tick (at 1 1000000)
      ∷ take (room 24)
      ∷ take (room 24)
      ∷ failed ∷ failures
      ∷ offline ∷ failures
      ∷ start 0 ∷ can-range 0 0 0xffffffff
      ∷ can 0 (at 2 0) 0x123 (0x02 ∷ [])
      ∷ tick (at 2 1000000)
      ∷ take (room 24)
      ∷ offline ∷ failed
      ∷ start 0 ∷ can-range 0 0 0xffffffff
      ∷ can 0 (at 3 0) 0x123 (0x03 ∷ [])
      ∷ tick (at 3 1000000)
      ∷ take (room 24)
      ∷ switch 64 1 1 ∷ failed ∷ failures
      ∷ [];
  said =
      ok ∷ ok ∷ number 0
      ∷ ok
      ∷ ok
      ∷ taken p12-first 0
      ∷ record { answer = 13; number = 0; output = room 24 }
      ∷ ok ∷ number 1
      ∷ ok ∷ number 0
      ∷ ok ∷ number 0
      ∷ ok
      ∷ ok
      ∷ taken p12_second 0
      ∷ ok ∷ refused 17
      ∷ ok ∷ number 0
      ∷ ok
      ∷ ok
      ∷ taken p12_third 0
      ∷ ok ∷ refused 17 ∷ number 0
      ∷ [];
}

-- P13: errors on the channels of a FlexRay source that has no filter. The first makes the state known; bits 3 to 1 are clear again
-- after it, and no update may set one. An error with none of them is shown, and shown again though nothing changed. Four that are
-- out of range. A conflict, which needs a filter, sets bit 0 alone, and the error after it bits 3 to 1 alone. The next tick finds a
-- source that was heard; the one after it tells that the bits are clear
abbrev p13_frame : List ℕ
p13_frame =
    0x01 ∷ 0x00 ∷ 0x00 ∷ 0x00 ∷ 0x00 ∷ 0x00 ∷ 0x00 ∷ 0x10 ∷ 0x00 ∷ 0x00 ∷ 0x00 ∷ 0x00 ∷ 0x00 ∷ 0x2d
    ∷ 0x00 ∷ 0x00 ∷ 0xc3 ∷ 0x07 ∷ 0x0a ∷ 0xc0 ∷ 0x00 ∷ 0x00
    ∷ 0x00 ∷ 0x02 ∷ 0xc3 ∷ 0x07 ∷ 0x70 ∷ 0x40 ∷ 0x00 ∷ 0x00
    ∷ 0x00 ∷ 0x02 ∷ 0xc3 ∷ 0x07 ∷ 0x70 ∷ 0x40 ∷ 0x00 ∷ 0x00
    ∷ 0x00 ∷ 0x04 ∷ 0xc3 ∷ 0x07 ∷ 0x71 ∷ 0x88 ∷ 0x05 ∷ 0x01
    ∷ 0x00 ∷ 0x05 ∷ 0xc3 ∷ 0x07 ∷ 0x7e ∷ 0x80 ∷ 0x00 ∷ 0x00
    ∷ 0x00 ∷ 0x07 ∷ 0x83 ∷ 0x07 ∷ 0x70
    ∷ []

abbrev pub p13 : Row
p13 = record {
  calls =
      setup 64 1 1 (3 ∷ 7 ∷ []) ∷ start 0
      ∷ flexray-error 0 (at 16 0) 3 10
      ∷ flexray-state 0 true 0x32
      ∷ flexray-state 0 true 0x30
      ∷ flexray-error 0 (at 16 20833) 1 0
      ∷ flexray-error 0 (at 16 20833) 1 0
      ∷ flexray-error 0 (at 16 30000) 0 8
      ∷ flexray-error 0 (at 16 30000) 4 8
      ∷ flexray-error 0 (at 16 30000) 3 1
      ∷ flexray-error 0 (at 16 30000) 3 16
      ∷ conflict 0 (at 16 40000) 2 5 1
      ∷ slots 0 0 2047 0 63 1
      ∷ conflict 0 (at 16 40000) 2 5 1
      ∷ flexray-error 0 (at 16 50000) 2 14
      ∷ tick (at 16 60000)
      ∷ tick (at 16 70000)
      ∷ tick (at 16 1000000)
      ∷ take (room 59)
      ∷ [];
  said =
      ok ∷ ok
      ∷ ok
      ∷ refused 5
      ∷ ok
      ∷ ok
      ∷ ok
      ∷ refused 5
      ∷ refused 5
      ∷ refused 5
      ∷ refused 5
      ∷ refused 1
      ∷ number 0
      ∷ ok
      ∷ ok
      ∷ ok
      ∷ ok
      ∷ ok
      ∷ taken p13_frame 0
      ∷ [];
}
