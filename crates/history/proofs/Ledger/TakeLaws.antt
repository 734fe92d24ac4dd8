-- The frames taken are the first of those that were kept, in order.
use Prim.Native.Nat.{ℕ, suc}
use mathlib.Core.Path.{◌≡◌, refl, sym, ◌∙◌}
use mathlib.Core.Bool.{Bool, true, false}
use mathlib.Core.List.{List, [], ◌∷◌, ◌++◌, map, append_assoc, append-nil}
use native.Mathlib.Numerals.{add-one}
use lib.ListN.{length, take, drop}
use lib.Seq.{take-append-le, take-add}
use Rattle.codec.specs.Choice.{pick}
use Rattle.codec.specs.declared.time.Time.{Time}
use Rattle.history.specs.Account.{Event}
use Rattle.history.specs.Ledger.{Limits, Frame, Ledger, Op, kept_in, taken_in, waiting_in, has_room, close, begin, enter, mirrored, closes_before, overdue, taken, failed, step_l, run_l}
use Rattle.history.specs.Ledger as Rules
use Rattle.history.proofs.Ground.ListLaws.{kept_append}
use Rattle.history.proofs.Ledger.Moves.{begin-keeps, taken_none, taken_one, Out, none_out, one_out, out_or_not, failed-none, failed-one}
use Rattle.history.proofs.Ledger.LedgerLaws.{SoundL, step_sound}

-- what an operation takes
abbrev got : Ledger → Op → List Frame
got l (Rules.event ev) = []
got l (Rules.deadline t) = []
got l Rules.take = take 1 (waiting_in l)
got l Rules.fail = []

abbrev pub got_on : Limits → Ledger → List Op → List Frame
got_on c l [] = []
got_on c l (op ∷ ops) = got l op ++ got_on c (step_l c l op) ops

pub got_append : (c : Limits) (l : Ledger) (a b : List Op) → got_on c l (a ++ b) ≡ got_on c l a ++ got_on c (run_l c l a) b
got_append c l [] b = refl
got_append c l (op ∷ a) b = rw (got_append c (step_l c l op) a b) (rw append_assoc)

-- events take no frame
got_events : (c : Limits) (l : Ledger) (evs : List Event) → got_on c l (map Rules.event evs) ≡ []
got_events c l [] = refl
got_events c l (ev ∷ evs) = got_events c (step_l c l (Rules.event ev)) evs

pub got_tick : (c : Limits) (l : Ledger) (evs : List Event) (t : Time) → got_on c l (map Rules.event evs ++ (Rules.deadline t ∷ [])) ≡ []
got_tick c l evs t = got_append c l (map Rules.event evs) (Rules.deadline t ∷ []) ∙ rw (got_events c l evs)

-- a closing adds behind what was kept
took_close : (c : Limits) (l : Ledger) (b : Bool) → SoundL c l → taken_in (pick b (close c l) l) ≡ taken_in l
unfolding taken_in close
took_close c l false s = refl
took_close c l true s =
    rw (kept_append l.closed (record { frame = l.filling; kept = has_room c l } ∷ []))
    (take-append-le (length l.sends) (kept_in l.closed) (kept_in (record { frame = l.filling; kept = has_room c l } ∷ [])) s.taken)

took_begin : (t : Time) (l : Ledger) → taken_in (begin t l) ≡ taken_in l
unfolding taken_in
took_begin t l = rw ((begin-keeps t l).0, (begin-keeps t l).1)

took_enter : (ev : Event) (l : Ledger) → taken_in (enter ev l) ≡ taken_in l
unfolding taken_in enter
took_enter ev l = refl

took_next : {A : Type 0} (n : ℕ) (xs : List A) → take (suc n) xs ≡ take n xs ++ take 1 (drop n xs)
took_next n xs = rw (← add-one n) (take-add n 1 xs)

took_take : (l : Ledger) (fs : List Frame) → waiting_in l ≡ fs → taken_in (taken l) ≡ taken_in l ++ take 1 (waiting_in l)
unfolding taken_in waiting_in
took_take l [] e = rw (taken_none l e) (rw e (sym (append-nil (take (length l.sends) (kept_in l.closed)))))
took_take l (f ∷ fs) e = rw (taken_one l f fs e) (took_next (length l.sends) (kept_in l.closed))

took_fail : (l : Ledger) → Out l.sends → taken_in (failed l) ≡ taken_in l
unfolding taken_in
took_fail l (none_out e) = rw (failed-none l e)
took_fail l (one_out bs e) = rw (failed-one l bs e, e)

step_took : (c : Limits) (l : Ledger) (op : Op) → SoundL c l → taken_in (step_l c l op) ≡ taken_in l ++ got l op
unfolding mirrored Rules.passed
step_took c l (Rules.event ev) s =
    let m : Ledger = pick (closes_before c l ev) (close c l) l in
    took_enter ev (begin ev.time m) ∙ took_begin ev.time m ∙ took_close c l (closes_before c l ev) s ∙ sym (append-nil (taken_in l))
step_took c l (Rules.deadline t) s = took_close c l (overdue c l t) s ∙ sym (append-nil (taken_in l))
step_took c l Rules.take s = took_take l (waiting_in l) refl
step_took c l Rules.fail s = took_fail l (out_or_not l.sends) ∙ sym (append-nil (taken_in l))

pub run_took : (c : Limits) (l : Ledger) (ops : List Op) → SoundL c l → taken_in (run_l c l ops) ≡ taken_in l ++ got_on c l ops
run_took c l [] s = sym (append-nil (taken_in l))
run_took c l (op ∷ ops) s = run_took c (step_l c l op) ops (step_sound c l op s) ∙ rw (step_took c l op s) (rw append_assoc)
