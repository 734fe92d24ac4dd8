-- The events among the operations of deeds are the deeds' own: the deadlines, takes and failed sends between them add none.
use mathlib.Core.Path.{◌≡◌, refl, ◌∙◌}
use mathlib.Core.Bool.{Bool, true, false}
use mathlib.Core.List.{List, [], ◌∷◌, ◌++◌, map, append-nil}
use Rattle.codec.specs.Choice.{pick}
use Rattle.history.specs.Meaning.{Meaning, starts, stops, updates, reports, ticks, takes, fails, switches, drops, nothing, meaning}
use Rattle.history.specs.Account.{Account, Event, events_of}
use Rattle.history.specs.Ledger.{Op}
use Rattle.history.specs.Ledger as Rules
use Rattle.history.specs.Deed.{Deed, done, besides, ops_of, accounts_by, events_on, ops_on}
use Rattle.history.proofs.Ledger.Moves.{events_in}

events_in_append : (a b : List Op) → events_in (a ++ b) ≡ events_in a ++ events_in b
events_in_append [] b = refl
events_in_append (Rules.event ev ∷ a) b = rw (events_in_append a b)
events_in_append (Rules.deadline t ∷ a) b = events_in_append a b
events_in_append (Rules.take ∷ a) b = events_in_append a b
events_in_append (Rules.fail ∷ a) b = events_in_append a b

events_only : (evs : List Event) → events_in (map Rules.event evs) ≡ evs
events_only [] = refl
events_only (ev ∷ evs) = rw (events_only evs)

none-besides : (m : Meaning) → events_in (besides m) ≡ []
none-besides (starts source) = refl
none-besides (stops source) = refl
none-besides (updates source byte) = refl
none-besides (reports source b t ident carries payload) = refl
none-besides (ticks t) = refl
none-besides takes = refl
none-besides fails = refl
none-besides (switches size room deadline) = refl
none-besides drops = refl
none-besides nothing = refl

events-of : (book : List Account) (m : Meaning) → events_in (ops_of book m) ≡ events_of book m
unfolding ops_of
events-of book m =
    events_in_append (map Rules.event (events_of book m)) (besides m) ∙ rw (events_only (events_of book m), none-besides m) (append-nil (events_of book m))

events_by : (b : Bool) (book : List Account) (m : Meaning) → events_in (pick b (ops_of book m) []) ≡ pick b (events_of book m) []
events_by true book m = events-of book m
events_by false book m = refl

pub events-in : (book : List Account) (ds : List Deed) → events_in (ops_on book ds) ≡ events_on book ds
events-in book [] = refl
events-in book (d ∷ ds) =
    events_in_append (pick (done d) (ops_of book (meaning d.call)) []) (ops_on (accounts_by book d) ds)
    ∙ rw (events_by (done d) book (meaning d.call), events-in (accounts_by book d) ds)
