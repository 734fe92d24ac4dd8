-- Offline and switch, each of which begins a new history (docs/RULES.md, "The engine").
use Rattle.std.specs.Prelude.{◌⊎◌, List, [], ◌∷◌}
use Rattle.codec.specs.Choice.{pick}
use Rattle.mirror.specs.Call.{Call}
use Rattle.history.specs.Meaning.{Meaning, starts, stops, updates, reports, ticks, takes, fails, switches, drops, nothing, meaning}
use Rattle.history.specs.Ledger.{Limits}
use Rattle.history.specs.Deed.{Deed, done}
use Rattle.history.specs.History.{Plain}

abbrev pub Resets : Meaning → Type 0
Resets (switches size room deadline) = Unit
Resets drops = Unit
Resets (starts source) = ⊥
Resets (stops source) = ⊥
Resets (updates source byte) = ⊥
Resets (reports source b t ident carries payload) = ⊥
Resets (ticks t) = ⊥
Resets takes = ⊥
Resets fails = ⊥
Resets nothing = ⊥

-- any call of the machine's types
abbrev pub Typed : Call → Type 0
Typed x = Plain x ⊎ Resets (meaning x)

-- switch brings a new F, Q and D; no other call changes them
abbrev pub limits_of : Limits → Meaning → Limits
limits_of c (switches size room deadline) = record { size = size; room = room; deadline = deadline }
limits_of c drops = c
limits_of c (starts source) = c
limits_of c (stops source) = c
limits_of c (updates source byte) = c
limits_of c (reports source b t ident carries payload) = c
limits_of c (ticks t) = c
limits_of c takes = c
limits_of c fails = c
limits_of c nothing = c

abbrev pub limits_on : Limits → List Deed → Limits
limits_on c [] = c
limits_on c (d ∷ ds) = limits_on (pick (done d) (limits_of c (meaning d.call)) c) ds
