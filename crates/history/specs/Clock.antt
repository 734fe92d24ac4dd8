-- What a report or a tick tells of the clock, from the ledger alone (docs/RULES.md, "A clock that steps back").
use Rattle.std.specs.Prelude.{ℕ, ◌-◌, min, List, [], ◌∷◌, map}
use Rattle.codec.specs.Choice.{pick}
use Rattle.codec.specs.Time.{ns}
use Rattle.codec.specs.declared.time.Time.{Time}
use Rattle.history.specs.Meaning.{Meaning, starts, stops, updates, reports, ticks, takes, fails, switches, drops, nothing, meaning}
use Rattle.history.specs.Ledger.{Ledger, is_empty}
use Rattle.history.specs.Deed.{Deed, done}

-- how many nanoseconds t lies before the header time of the frame being filled, cut at 4,294,967,295; 0 where it does not, and where
-- no frame is being filled
unfoldable pub behind : Ledger → Time → ℕ
behind l t = pick (is_empty l.filling.lines) 0 (min (ns l.filling.time - ns t) 4294967295)

-- the clock is read by a report and by a tick
abbrev pub clock_in : Meaning → List Time
clock_in (reports source b t ident carries payload) = t ∷ []
clock_in (ticks t) = t ∷ []
clock_in (starts source) = []
clock_in (stops source) = []
clock_in (updates source byte) = []
clock_in takes = []
clock_in fails = []
clock_in (switches size room deadline) = []
clock_in drops = []
clock_in nothing = []

-- what they tell, where they find the ledger l: that number if they are answered 0, else 0
unfoldable pub tells_by : Ledger → Deed → List ℕ
tells_by l d = map (λ t. pick (done d) (behind l t) 0) (clock_in (meaning d.call))

-- what the engine said beside its answer
unfoldable pub says_by : Deed → List ℕ
says_by d = map (λ t. d.said.number) (clock_in (meaning d.call))
