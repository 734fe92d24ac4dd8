-- Losses: on which items the lost bit stands, what it means that a loss is told, and how often a send was called failed
-- (rules 3, 4 and 8).
use Rattle.std.specs.Prelude.{ℕ, ◌+◌, ◌≡◌, Bool, true, false, List, [], ◌∷◌, map, length, leb}
use Rattle.codec.specs.Choice.{pick}
use Rattle.std.specs.Prelude.{Option, Some, None}
use Rattle.history.specs.Meaning.{Meaning, starts, stops, updates, reports, ticks, takes, fails, switches, drops, nothing, meaning}
use Rattle.history.specs.Ledger.{Closed, Note, made, queued, discarded, unsent, Ledger, item_in, discarded_in, failures_in, lines_in, closed_by, filling_by, made_in, is_discard, is_failure, tally}
use Rattle.history.specs.Deed.{Deed, done}

-- bit 7 of a shown state
abbrev pub lost_bit : Option ℕ → Bool
lost_bit (Some b) = leb 128 b
lost_bit None = false

-- note after note: it is set on the first item made after a frame was discarded or called failed, and on no other. b says whether
-- there was such a loss since the last item, and `pending` says so at the end
abbrev pub Marks : Bool → List Note → Bool → Type 0
Marks b [] pending = b ≡ pending
Marks b (made x ∷ ns) pending = (lost_bit (item_in x).state ≡ b) × Marks false ns pending
Marks b (queued ∷ ns) pending = Marks b ns pending
Marks b (discarded ∷ ns) pending = Marks true ns pending
Marks b (unsent ∷ ns) pending = Marks true ns pending

-- the notes speak of the ledger's own frames, lines and losses
pub record Noted (l : Ledger) : Type 0 where
  pub closed : closed_by [] l.notes ≡ map (λ (k : Closed). (k.frame.lines, k.kept)) l.closed
  pub filling : filling_by [] l.notes ≡ l.filling.lines
  pub lines : made_in l.notes ≡ lines_in l
  pub discards : tally is_discard l.notes ≡ length (discarded_in l.closed)
  pub failures : tally is_failure l.notes ≡ failures_in l.sends

abbrev pub IsLoss : Note → Type 0
IsLoss discarded = Unit
IsLoss unsent = Unit
IsLoss (made x) = ⊥
IsLoss queued = ⊥

-- the first item made has the lost bit; where none is made, the loss is pending still
abbrev pub Told : List Note → Bool → Type 0
Told [] pending = pending ≡ true
Told (made x ∷ ns) pending = lost_bit (item_in x).state ≡ true
Told (queued ∷ ns) pending = Told ns pending
Told (discarded ∷ ns) pending = Told ns pending
Told (unsent ∷ ns) pending = Told ns pending

-- how many `failed` were answered 0
abbrev pub failed_in : Meaning → ℕ
failed_in fails = 1
failed_in (starts source) = 0
failed_in (stops source) = 0
failed_in (updates source byte) = 0
failed_in (reports source b t ident carries payload) = 0
failed_in (ticks t) = 0
failed_in takes = 0
failed_in (switches size room deadline) = 0
failed_in drops = 0
failed_in nothing = 0

abbrev pub failed_on : List Deed → ℕ
failed_on [] = 0
failed_on (d ∷ ds) = pick (done d) (failed_in (meaning d.call)) 0 + failed_on ds
