-- What it means that an event's time lies behind the frame being filled: the frame closes, and the number is the distance.
use Prim.Native.Nat.{◌+◌, ◌-◌, ◌≤◌, ◌<◌, min}
use mathlib.Core.Path.{◌≡◌, refl}
use mathlib.Core.Logic.{inl}
use mathlib.Core.Bool.{Bool, true, false}
use native.Mathlib.Omega.{arith}
use Rattle.codec.specs.Time.{ns}
use Rattle.codec.specs.declared.time.Time.{Time}
use Rattle.history.specs.Account.{Event}
use Rattle.history.specs.Ledger.{Limits, Ledger, is_empty}
use Rattle.history.specs.Ledger as Rules
use Rattle.history.specs.Clock.{behind}
use Rattle.history.specs.History.{Says}
use Rattle.history.proofs.Ground.ListLaws.{not_empty}

module _ (l : Ledger) (t : Time) where
  -- there is a frame, and t lies before its header time, by as much as the number says where it is not cut
  record Before : Type 0 where
    filled : is_empty l.filling.lines ≡ false
    before : ns t < ns l.filling.time
    exact : behind l t < 4294967295 → ns t + behind l t ≡ ns l.filling.time

  before_by : 1 ≤ behind l t → Before
  unfolding behind
  before_by h = go (is_empty l.filling.lines) refl
    where
      go : (b : Bool) → is_empty l.filling.lines ≡ b → Before
      go true q = let k : 1 ≤ 0 = rw q at h in let z : ⊥ = omega arith in absurd z
      go false q =
          let k : 1 ≤ min (ns l.filling.time - ns t) 4294967295 = rw q at h in
          record { filled = q; before = omega arith; exact = λ u. let v : min (ns l.filling.time - ns t) 4294967295 < 4294967295 = rw q at u in rw q (omega arith) }

-- a report that tells more than 0 closes the frame that it finds (rule 2)
pub back_closes : (c : Limits) (l : Ledger) (ev : Event) → 1 ≤ behind l ev.time → Says c l (Rules.event ev)
back_closes c l ev h =
    let b = before_by l ev.time h in
    (not_empty l.filling.lines b.filled, inl b.before)

-- below the cut, the number and the time are the header time
pub back_exact : (l : Ledger) (t : Time) → 1 ≤ behind l t → behind l t < 4294967295 → ns t + behind l t ≡ ns l.filling.time
back_exact l t h = (before_by l t h).exact
