-- The theorem asks for nothing that cannot be had: P9's calls, one frame of which is discarded, have a history.
use Prim.Native.Nat.{◌^◌, ◌<◌}
use mathlib.Core.Path.{◌≡◌, refl}
use mathlib.Core.List.{[], ◌∷◌}
use native.Mathlib.Omega.{arith}
use Rattle.framer.specs.Meter.{limits_ok, sound_meter, empty_meter}
use Rattle.framer.specs.Framer.{empty_framer}
use Rattle.mirror.specs.Engine.{fresh_engine, sound_of, cause_of}
use Rattle.mirror.specs.Setup.{pair_ok, sources_ok, setup_cause, setup_of}
use Rattle.mirror.specs.Vectors.{p9}
use Rattle.history.specs.Account.{accounts_for}
use Rattle.history.specs.Ledger.{Limits}
use Rattle.history.specs.History.{All, Plain, set_up, Leaves}
use Rattle.history.proofs.Theorems.Examples.{later}
use Rattle.history.proofs.Theorems.Theorem.{history}

abbrev limits : Limits
limits = record { size = 64; room = 1; deadline = 1 }

accepted : (set_up fresh_engine limits (1 ∷ 5 ∷ [])).said.answer ≡ 0
unfolding setup_of setup_cause cause_of sound_of fresh_engine empty_framer empty_meter sound_meter limits_ok sources_ok pair_ok
accepted = refl

key : 0x123 < 2 ^ 32
key = omega arith

plain : All Plain (later p9.calls)
plain =
    (tt, (tt, ((key, (omega arith, tt)), (tt, (tt, ((key, (omega arith, tt)), (tt, (tt, ((key, (omega arith, tt)), (tt, (tt, (tt, tt))))))))))))

pub witness : Leaves limits (accounts_for (1 ∷ 5 ∷ [])) (set_up fresh_engine limits (1 ∷ 5 ∷ [])).engine (later p9.calls)
witness = history fresh_engine limits (1 ∷ 5 ∷ []) (later p9.calls) accepted plain
