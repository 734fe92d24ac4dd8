-- Times in plain naturals: a count of nanoseconds (docs/RULES.md, "The engine", rules 1, 2 and 6).
use Rattle.std.specs.Prelude.{ℕ, ◌+◌, ◌-◌, ◌*◌, ◌/◌, ◌%◌, min, Bool, ◌&&◌, ltb, leb}
use Rattle.codec.specs.Choice.{pick}
use Rattle.codec.specs.declared.time.Time.{Time}
use Rattle.codec.specs.declared.time.Elapsed.{Elapsed}

-- all of a time in nanoseconds
abbrev pub ns : Time → ℕ
ns t = t.sec * 1000000000 + t.nano

-- seconds 0 to 281,474,976,710,655, which six bytes hold (SWS_Mirror_00061), nanoseconds 0 to 999,999,999
abbrev pub time_ok : Time → Bool
time_ok t = leb t.sec 281474976710655 && leb t.nano 999999999

-- ten-microsecond ticks, remainder dropped; too far where the offset would pass 65,535 (rules 1 and 2;
-- SWS_Mirror_00065, SWS_Mirror_00066)
unfoldable pub ticks_of : ℕ → Elapsed
ticks_of n = pick (leb (n / 10000) 65535) (Elapsed.Ticks (record { 0 = n / 10000 })) Elapsed.TooFar

-- whole milliseconds, cut at 65,535
abbrev pub millis_of : ℕ → ℕ
millis_of n = min (n / 1000000) 65535

-- how many nanoseconds t lies before f, cut at 4,294,967,295; 0 where it does not (docs/RULES.md, "A clock that steps back")
abbrev pub behind_by : ℕ → ℕ → ℕ
behind_by f t = min (f - t) 4294967295

-- the measure from a header time to a reading of the clock, both in nanoseconds: ticks, too far, or backwards by so many
-- nanoseconds (rules 1 and 2; "A clock that steps back")
unfoldable pub elapsed : ℕ → ℕ → Elapsed
elapsed f t = pick (ltb t f) (Elapsed.Backwards (record { 0 = behind_by f t })) (ticks_of (t - f))

-- t is D milliseconds or more after f, and D is not 0 (rule 6)
unfoldable pub overdue_of : ℕ → ℕ → ℕ → Bool
overdue_of f t d = leb 1 d && leb (f + d * 1000000) t

-- the header time and the offset's ticks, as seconds and nanoseconds
unfoldable pub recovered_of : Time → ℕ → Time
recovered_of h k = record {
  sec = min (h.sec + (h.nano + k * 10000) / 1000000000) 18446744073709551615;
  nano = (h.nano + k * 10000) % 1000000000;
}
