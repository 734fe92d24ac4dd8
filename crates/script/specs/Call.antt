-- The lines of a call script, by their words.
use Rattle.std.specs.Prelude.{ℕ, ◌%◌, List, codes, Option, Some, None, eqb, ltb}
use Rattle.codec.specs.Choice.{pick}
use Rattle.text.specs.Line.{words_of, word_of, same_of}
use Rattle.text.specs.Number.{number_of}
use Rattle.script.specs.Word.{on, wide_at, narrow_at, flag_at, stamp_at, slot_at, shape_at, bounds_at}
use Rattle.script.specs.declared.call.Call.{Call}
use Rattle.script.specs.declared.word.Bounds.{Bounds}

-- new, offline, failed, discards, failures
unfoldable pub one_word_of : List ℕ → Option Call
one_word_of name =
    pick (same_of name (codes "new")) (Some Call.New)
    (pick (same_of name (codes "offline")) (Some Call.Offline)
    (pick (same_of name (codes "failed")) (Some Call.Failed)
    (pick (same_of name (codes "discards")) (Some Call.Discards)
    (pick (same_of name (codes "failures")) (Some Call.Failures) None))))

-- read BYTES; take SIZE, the size at most 2,048; start S; stop S
unfoldable pub two_words_of : List ℕ → List ℕ → Option Call
two_words_of name line =
    pick (same_of name (codes "read")) (Some Call.Read)
    (pick (same_of name (codes "take")) (on (number_of (word_of line 1) 2048) (λ size. Some (Call.Take size)))
    (pick (same_of name (codes "start")) (on (wide_at line 1) (λ source. Some (Call.Start source)))
    (pick (same_of name (codes "stop")) (on (wide_at line 1) (λ source. Some (Call.Stop source))) None)))

-- remove S NUMBER
unfoldable pub removed_of : List ℕ → Option Call
removed_of line =
    on (wide_at line 1)
    (λ source. on (wide_at line 2)
    (λ number. Some (Call.Remove source number)))

-- tick SEC NANO
unfoldable pub ticked_of : List ℕ → Option Call
ticked_of line =
    on (wide_at line 1)
    (λ sec. on (narrow_at line 2)
    (λ nano. Some (Call.Tick (record { sec = sec; nano = nano }))))

-- lin-state S ONLINE
unfoldable pub lin_state_of : List ℕ → Option Call
lin_state_of line =
    on (wide_at line 1)
    (λ source. on (flag_at line 2)
    (λ online. Some (Call.LinState source online)))

-- rewrite SIZE BYTES, the size at most 70,000; step PLACE BYTES; payload PLACE BYTES; and the lines above
unfoldable pub three_words_of : List ℕ → List ℕ → Option Call
three_words_of name line =
    pick (same_of name (codes "rewrite")) (on (number_of (word_of line 1) 70000) (λ size. Some (Call.Rewrite size)))
    (pick (same_of name (codes "step")) (on (wide_at line 1) (λ place. Some (Call.Step place)))
    (pick (same_of name (codes "payload")) (on (wide_at line 1) (λ place. Some (Call.Payload place)))
    (pick (same_of name (codes "remove")) (removed_of line)
    (pick (same_of name (codes "tick")) (ticked_of line)
    (pick (same_of name (codes "lin-state")) (lin_state_of line) None)))))

-- switch F Q D
unfoldable pub switched_of : List ℕ → Option Call
switched_of line = on (shape_at line) (λ s. Some (Call.Switch s.size s.room s.deadline))

-- flexray-state S ONLINE BITS
unfoldable pub flexray_state_of : List ℕ → Option Call
flexray_state_of line =
    on (wide_at line 1)
    (λ source. on (flag_at line 2)
    (λ online. on (narrow_at line 3)
    (λ bits. Some (Call.FlexRayState source online bits))))

-- can-mask S MASK CODE, can-range S LOWER UPPER, and the same of LIN
unfoldable pub filter_of : List ℕ → Bounds → Option Call
filter_of name f =
    pick (same_of name (codes "can-mask")) (Some (Call.CanMask f.source f.a f.b))
    (pick (same_of name (codes "can-range")) (Some (Call.CanRange f.source f.a f.b))
    (pick (same_of name (codes "lin-mask")) (Some (Call.LinMask f.source f.a f.b))
    (pick (same_of name (codes "lin-range")) (Some (Call.LinRange f.source f.a f.b)) None)))

-- the lines of four words, but for setup
unfoldable pub four_words_of : List ℕ → List ℕ → Option Call
four_words_of name line =
    pick (same_of name (codes "switch")) (switched_of line)
    (pick (same_of name (codes "flexray-state")) (flexray_state_of line) (on (bounds_at line) (filter_of name)))

-- can-state S ONLINE PASSIVE BUSOFF COUNTER
unfoldable pub can_state_of : List ℕ → Option Call
can_state_of line =
    on (wide_at line 1)
    (λ source. on (flag_at line 2)
    (λ online. on (flag_at line 3)
    (λ passive. on (flag_at line 4)
    (λ busOff. on (narrow_at line 5)
    (λ counter. Some (Call.CanState source online passive busOff counter))))))

-- can S SEC NANO KEY BYTES
unfoldable pub can_of : List ℕ → Option Call
can_of line =
    on (stamp_at line)
    (λ s. on (narrow_at line 4)
    (λ key. Some (Call.Can s.source s.time key)))

-- flexray-error S SEC NANO CHANNELS BITS
unfoldable pub error_of : List ℕ → Option Call
error_of line =
    on (stamp_at line)
    (λ s. on (narrow_at line 4)
    (λ channels. on (narrow_at line 5)
    (λ bits. Some (Call.FlexRayError s.source s.time channels bits))))

-- the lines of six words
unfoldable pub six_words_of : List ℕ → List ℕ → Option Call
six_words_of name line =
    pick (same_of name (codes "can")) (can_of line)
    (pick (same_of name (codes "can-state")) (can_state_of line)
    (pick (same_of name (codes "flexray-error")) (error_of line) None))

-- lin S SEC NANO PID ERRORS BYTES
unfoldable pub lin_of : List ℕ → Option Call
lin_of line =
    on (stamp_at line)
    (λ s. on (narrow_at line 4)
    (λ pid. on (narrow_at line 5)
    (λ errors. Some (Call.Lin s.source s.time pid errors))))

-- conflict S SEC NANO CHANNELS SLOT CYCLE
unfoldable pub conflict_of : List ℕ → Option Call
conflict_of line =
    on (stamp_at line)
    (λ s. on (slot_at line)
    (λ f. Some (Call.Conflict s.source s.time f.channels f.slot f.cycle)))

-- flexray-filter S LOWSLOT HIGHSLOT LOWCYCLE HIGHCYCLE REPETITION
unfoldable pub slots_of : List ℕ → Option Call
slots_of line =
    on (wide_at line 1)
    (λ source. on (narrow_at line 2)
    (λ low. on (narrow_at line 3)
    (λ high. on (narrow_at line 4)
    (λ lowCycle. on (narrow_at line 5)
    (λ highCycle. on (narrow_at line 6)
    (λ repetition. Some (Call.Slots source low high lowCycle highCycle repetition)))))))

-- the lines of seven words
unfoldable pub seven_words_of : List ℕ → List ℕ → Option Call
seven_words_of name line =
    pick (same_of name (codes "lin")) (lin_of line)
    (pick (same_of name (codes "conflict")) (conflict_of line)
    (pick (same_of name (codes "flexray-filter")) (slots_of line) None))

-- flexray S SEC NANO CHANNELS SLOT CYCLE BYTES
unfoldable pub flexray_of : List ℕ → Option Call
flexray_of line =
    on (stamp_at line)
    (λ s. on (slot_at line)
    (λ f. Some (Call.FlexRay s.source s.time f.channels f.slot f.cycle)))

-- the line of eight words
unfoldable pub eight_words_of : List ℕ → List ℕ → Option Call
eight_words_of name line = pick (same_of name (codes "flexray")) (flexray_of line) None

-- a missing or an extra word makes no call
unfoldable pub counted_of : List ℕ → List ℕ → Option Call
counted_of name line =
    pick (eqb (words_of line) 1) (one_word_of name)
    (pick (eqb (words_of line) 2) (two_words_of name line)
    (pick (eqb (words_of line) 3) (three_words_of name line)
    (pick (eqb (words_of line) 4) (four_words_of name line)
    (pick (eqb (words_of line) 6) (six_words_of name line)
    (pick (eqb (words_of line) 7) (seven_words_of name line)
    (pick (eqb (words_of line) 8) (eight_words_of name line) None))))))

-- setup F Q D KIND ID KIND ID .., an even number of words
unfoldable pub set_up_of : List ℕ → Option Call
set_up_of line =
    pick (ltb (words_of line) 4) None
    (pick (eqb (words_of line % 2) 0) (on (shape_at line) (λ s. Some (Call.Setup s.size s.room s.deadline))) None)

-- the call that a line names; its name is the first word
unfoldable pub call_of : List ℕ → Option Call
call_of line = pick (same_of (word_of line 0) (codes "setup")) (set_up_of line) (counted_of (word_of line 0) line)
