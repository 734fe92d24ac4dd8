-- Calls with what the engine said to each, and what they come to in the ledger. A call that was not answered 0 comes to nothing.
use Rattle.std.specs.Prelude.{Bool, List, [], ◌∷◌, ◌++◌, map, eqb}
use Rattle.codec.specs.Choice.{pick}
use Rattle.mirror.specs.Call.{Call, Said, step_of}
use Rattle.mirror.specs.declared.engine.Engine.{Engine}
use Rattle.history.specs.Meaning.{Meaning, starts, stops, updates, reports, ticks, takes, fails, switches, drops, nothing, meaning}
use Rattle.history.specs.Account.{Account, Event, events_of, accounts_of}
use Rattle.history.specs.Ledger.{Limits, Ledger, empty_ledger, Op, run_l}

pub record Deed : Type 0 where
  pub call : Call
  pub said : Said

-- the engine's own answers to a list of calls, one after the other
abbrev pub deeds_of : Engine → List Call → List Deed
deeds_of e [] = []
deeds_of e (x ∷ xs) = record { call = x; said = (step_of e x).said } ∷ deeds_of (step_of e x).engine xs

unfoldable pub done : Deed → Bool
done d = eqb d.said.answer 0

-- behind its events a tick looks at the deadline, a take takes a frame, and a frame is called failed (rules 6 to 8)
abbrev pub besides : Meaning → List Op
besides (ticks t) = Op.deadline t ∷ []
besides takes = Op.take ∷ []
besides fails = Op.fail ∷ []
besides (starts source) = []
besides (stops source) = []
besides (updates source byte) = []
besides (reports source b t ident carries payload) = []
besides (switches size room deadline) = []
besides drops = []
besides nothing = []

unfoldable pub ops_of : List Account → Meaning → List Op
ops_of book m = map Op.event (events_of book m) ++ besides m

-- the accounts after a deed
unfoldable pub accounts_by : List Account → Deed → List Account
accounts_by book d = pick (done d) (accounts_of book (meaning d.call)) book

-- the accepted reports and the state items that rules 4 and 6 call for, in order
abbrev pub events_on : List Account → List Deed → List Event
events_on book [] = []
events_on book (d ∷ ds) = pick (done d) (events_of book (meaning d.call)) [] ++ events_on (accounts_by book d) ds

-- the same with deadlines, takes and failed sends between them
abbrev pub ops_on : List Account → List Deed → List Op
ops_on book [] = []
ops_on book (d ∷ ds) = pick (done d) (ops_of book (meaning d.call)) [] ++ ops_on (accounts_by book d) ds

-- the ledger that they leave
unfoldable pub ledger_of : Limits → List Account → List Deed → Ledger
ledger_of c book ds = run_l c empty_ledger (ops_on book ds)
