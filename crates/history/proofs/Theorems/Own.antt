-- Between calls the frame-bound bits of every state byte are clear. So such a bit stands on the item of its own report and on no other.
use Prim.Native.Nat.{ℕ, ◌+◌, ◌%◌}
use mathlib.Core.Path.{◌≡◌, refl, ◌∙◌, ap}
use mathlib.Core.Bool.{true}
use mathlib.Core.List.{List, [], ◌∷◌}
use native.Mathlib.Omega.{arith}
use borrow.Author.Tests.{eqb-true}
use Rattle.codec.specs.declared.ident.Kind.{Kind}
use Rattle.mirror.specs.Call.{Call, step_of, run_of}
use Rattle.mirror.specs.declared.engine.Engine.{Engine}
use Rattle.history.specs.Meaning.{Bound, none, errors, conflict, aggregated}
use Rattle.history.specs.Account.{Account, accounts_for, written}
use Rattle.history.specs.Ledger.{Limits, Ledger, empty_ledger, run_l}
use Rattle.history.specs.Deed.{Deed, deeds_of, accounts_by}
use Rattle.history.specs.History.{All, Plain, set_up}
use Rattle.history.proofs.Ground.ListLaws.{all_map}
use Rattle.history.proofs.Sources.SourceLaws.{bound_clear, HealthyA}
use Rattle.history.proofs.Sources.BookLaws.{book_of, Steady, healthy_book}
use Rattle.history.proofs.Framer.SimLaws.{Tied, run_tied}
use Rattle.history.proofs.Engine.EngineLaws.{step_steady}
use Rattle.history.proofs.Engine.RunLaws.{ops_by, deed_of, stepped}
use Rattle.history.proofs.Theorems.Theorem.{setup_begun, end_steady}

-- the accounts that deeds leave
abbrev pub accounts_on : List Account → List Deed → List Account
accounts_on book [] = book
accounts_on book (d ∷ ds) = accounts_on (accounts_by book d) ds

-- the frame-bound bits that a report writes
abbrev pub bits_in : Bound → ℕ
bits_in none = 0
bits_in (errors bits) = bits
bits_in conflict = 1
bits_in (aggregated bits) = bits

abbrev pub Calm : Account → Type 0
Calm a = bound_clear a.kind a.state ≡ true

-- the engine's accounts are those of the deeds
book_run : (c : Limits) (e : Engine) (l : Ledger) (xs : List Call) → Steady e → All Plain xs → Tied c e.framer l
    → book_of (run_of e xs) ≡ accounts_on (book_of e) (deeds_of e xs)
book_run c e l [] s p t = refl
book_run c e l (x ∷ xs) s p t =
    let n = stepped c e l x s p.0 t in
    let k : Tied c (step_of e x).engine.framer (run_l c l (ops_by (book_of e) (deed_of e x))) = rw n.framer (run_tied c e.framer l (ops_by (book_of e) (deed_of e x)) t n.fit) in
    book_run c (step_of e x).engine _ xs (step_steady e x s p.0) p.1 k ∙ ap (λ (b : List Account). accounts_on b (deeds_of (step_of e x).engine xs)) n.book

-- after an accepted setup, at every moment of any calls but offline and switch, the four low bits of LIN and FlexRay are clear
pub calm : (e : Engine) (c : Limits) (pairs : List ℕ) (calls : List Call) → (set_up e c pairs).said.answer ≡ 0 → All Plain calls
    → All Calm (accounts_on (accounts_for pairs) (deeds_of (set_up e c pairs).engine calls))
calm e c pairs calls z p =
    let b = setup_begun e c pairs z in
    let u : Engine = (set_up e c pairs).engine in
    let q : book_of (run_of u calls) ≡ accounts_on (accounts_for pairs) (deeds_of u calls)
    = book_run c u empty_ledger calls b.steady p b.tied ∙ ap (λ (x : List Account). accounts_on x (deeds_of u calls)) b.accounts in
    rw (← q) (all_map HealthyA Calm (λ a h. h.bound) (book_of (run_of u calls)) (healthy_book (run_of u calls) (end_steady c (accounts_for pairs) u calls b p)))

-- so a report of such a source adds its own bits to the byte, and no item shows those of another
pub own_bits : (b : Bound) (a : Account) → Calm a → (a.kind ≡ Kind.Can → ⊥) → written b a.state ≡ a.state + bits_in b
own_bits b a h n = go a.kind n h
  where
    adds : (b : Bound) (byte : ℕ) → byte % 16 ≡ 0 → written b byte ≡ byte + bits_in b
    adds none byte e = omega arith
    adds (errors bits) byte e = omega arith
    adds conflict byte e = omega arith
    adds (aggregated bits) byte e = omega arith

    go : (k : Kind) → (k ≡ Kind.Can → ⊥) → bound_clear k a.state ≡ true → written b a.state ≡ a.state + bits_in b
    go Kind.Can m e = absurd (m refl)
    go Kind.Lin m e = adds b a.state (eqb-true (a.state % 16) 0 e)
    go Kind.FlexRay m e = adds b a.state (eqb-true (a.state % 16) 0 e)
