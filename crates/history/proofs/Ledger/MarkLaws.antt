-- The lost bit stands exactly on the first item made after a discard or a failed send, and the notes speak of the ledger's own lines
-- and losses.
use Prim.Native.Nat.{ℕ, ◌+◌, ◌<◌}
use mathlib.Core.Path.{◌≡◌, refl, sym, ◌∙◌, ap, subst}
use mathlib.Core.Bool.{Bool, true, false, not, ◌||◌}
use mathlib.Core.List.{List, [], ◌∷◌, ◌++◌, map-append, append_assoc, append-nil}
use native.Mathlib.Omega.{arith}
use borrow.Author.Tests.{le-leb, lt-leb}
use Rattle.codec.specs.Choice.{pick, bit}
use Rattle.std.specs.Prelude.{Some, None}
use Rattle.codec.proofs.BoolLaws.{or_false, or_true}
use Rattle.history.specs.Account.{Event}
use Rattle.history.specs.Ledger.{Limits, Line, Closed, Note, Ledger, empty_ledger, Op, state_in, item_in, failures_in, has_room, line_for, close, enter, run_l, lines_in, closed_by, filling_by, made_in, is_discard, is_failure, tally}
use Rattle.history.specs.Ledger as Rules
use Rattle.history.specs.History.{All}
use Rattle.history.specs.Loss.{lost_bit, Marks, Noted}
use Rattle.history.proofs.Ground.Machine.{Fit, FitOp}
use Rattle.history.proofs.Ground.ListLaws.{all_unit, lines_append}
use Rattle.history.proofs.Ledger.Moves.{events_in, fit_events, failed_one, Moves, run_move}
use Rattle.history.proofs.Ledger.LedgerLaws.{close_discards}

-- bit 7 is the line's own flag, as the state is below 128
lost_shown : (x : Line) → x.event.state < 128 → lost_bit (item_in x).state ≡ x.lost
unfolding item_in state_in
lost_shown x h = go x.lost x.event.due x.event.state h
  where
    go : (a b : Bool) (n : ℕ) → n < 128 → lost_bit (pick a (Some (n + 128)) (pick b (Some n) None)) ≡ a
    go true b n k = le-leb 128 (n + 128) (omega arith)
    go false true n k = lt-leb 128 n k
    go false false n k = refl

-- one note more, which finds a loss pending or not
note_marks : (b : Bool) (ns : List Note) (n : Note) (p q : Bool) → Marks b ns p → Marks p (n ∷ []) q → Marks b (ns ++ (n ∷ [])) q
note_marks b [] n p q e m = subst (λ (x : Bool). Marks x (n ∷ []) q) (sym e) m
note_marks b (Rules.made x ∷ ns) n p q e m = (e.0, note_marks false ns n p q e.1 m)
note_marks b (Rules.queued ∷ ns) n p q e m = note_marks b ns n p q e m
note_marks b (Rules.discarded ∷ ns) n p q e m = note_marks true ns n p q e m
note_marks b (Rules.unsent ∷ ns) n p q e m = note_marks true ns n p q e m

abbrev MarksL : Ledger → Type 0
MarksL l = Marks false l.notes l.lost

close_marks : (c : Limits) (l : Ledger) → MarksL l → MarksL (close c l)
unfolding close
close_marks c l p = note_marks false l.notes _ l.lost _ p (go (has_room c l))
  where
    go : (b : Bool) → Marks l.lost (pick b Rules.queued Rules.discarded ∷ []) (l.lost || not b)
    go true = sym (or_false l.lost)
    go false = sym (or_true l.lost)

enter_marks : (ev : Event) (l : Ledger) → ev.state < 128 → MarksL l → MarksL (enter ev l)
unfolding enter line_for
enter_marks ev l s p = note_marks false l.notes (Rules.made (line_for l ev)) l.lost false p (lost_shown (line_for l ev) s, refl)

mark_moves : (c : Limits) → Moves c (Fit c) (λ l h. MarksL l)
mark_moves c = record {
  close = λ l h e p. close_marks c l p;
  begin = λ l h ev x e p. p;
  enter = λ l h ev x r p. enter_marks ev l x.state p;
  take = λ l h f fs e p. p;
  fail = λ l h bs e p. note_marks false l.notes Rules.unsent l.lost true p refl;
}

pub marks_are : (c : Limits) (ops : List Op) → All (FitOp c) ops → MarksL (run_l c empty_ledger ops)
unfolding empty_ledger
marks_are c ops x = run_move c (Fit c) (λ l h. MarksL l) (mark_moves c) empty_ledger [] ops (fit_events c ops x) refl

-- the frames that notes and later notes say
closed_more : (xs : List Line) (ns ms : List Note) → closed_by xs (ns ++ ms) ≡ closed_by xs ns ++ closed_by (filling_by xs ns) ms
closed_more xs [] ms = refl
closed_more xs (Rules.made x ∷ ns) ms = closed_more (xs ++ (x ∷ [])) ns ms
closed_more xs (Rules.queued ∷ ns) ms = rw (closed_more [] ns ms)
closed_more xs (Rules.discarded ∷ ns) ms = rw (closed_more [] ns ms)
closed_more xs (Rules.unsent ∷ ns) ms = closed_more xs ns ms

filling_more : (xs : List Line) (ns ms : List Note) → filling_by xs (ns ++ ms) ≡ filling_by (filling_by xs ns) ms
filling_more xs [] ms = refl
filling_more xs (Rules.made x ∷ ns) ms = filling_more (xs ++ (x ∷ [])) ns ms
filling_more xs (Rules.queued ∷ ns) ms = filling_more [] ns ms
filling_more xs (Rules.discarded ∷ ns) ms = filling_more [] ns ms
filling_more xs (Rules.unsent ∷ ns) ms = filling_more xs ns ms

closed_one : (xs : List Line) (b : Bool) → closed_by xs (pick b Rules.queued Rules.discarded ∷ []) ≡ (xs, b) ∷ []
closed_one xs true = refl
closed_one xs false = refl

filling_none : (xs : List Line) (b : Bool) → filling_by xs (pick b Rules.queued Rules.discarded ∷ []) ≡ []
filling_none xs true = refl
filling_none xs false = refl

-- what one note more says over all frames
made_more : (ns ms : List Note) → made_in (ns ++ ms) ≡ made_in ns ++ made_in ms
made_more [] ms = refl
made_more (Rules.made x ∷ ns) ms = rw (made_more ns ms)
made_more (Rules.queued ∷ ns) ms = made_more ns ms
made_more (Rules.discarded ∷ ns) ms = made_more ns ms
made_more (Rules.unsent ∷ ns) ms = made_more ns ms

tally_more : (f : Note → ℕ) (ns : List Note) (n : Note) → tally f (ns ++ (n ∷ [])) ≡ tally f ns + f n
tally_more f [] n = omega arith
tally_more f (m ∷ ns) n = omega (arith, tally_more f ns n)

close_lines : (c : Limits) (l : Ledger) → lines_in (close c l) ≡ lines_in l
unfolding close lines_in
close_lines c l = simp (lines_append, append-nil)

abbrev outline : Closed → List Line × Bool
outline k = (k.frame.lines, k.kept)

close-noted : (c : Limits) (l : Ledger) → Noted l → Noted (close c l)
unfolding close
close-noted c l p = record {
  closed = closed_more [] l.notes _ ∙ rw (p.closed, p.filling, closed_one l.filling.lines (has_room c l)) (sym (map-append outline l.closed _));
  filling = filling_more [] l.notes _ ∙ filling_none _ (has_room c l);
  lines = made_more l.notes _ ∙ go-lines (has_room c l) ∙ p.lines ∙ sym (close_lines c l);
  discards = tally_more is_discard l.notes _ ∙ rw (p.discards, go-discards (has_room c l)) (sym (close_discards c l));
  failures = tally_more is_failure l.notes _ ∙ rw (p.failures, go-failures (has_room c l)) (omega arith);
}
  where
    go-lines : (b : Bool) → made_in l.notes ++ made_in (pick b Rules.queued Rules.discarded ∷ []) ≡ made_in l.notes
    go-lines true = append-nil (made_in l.notes)
    go-lines false = append-nil (made_in l.notes)

    go-discards : (b : Bool) → is_discard (pick b Rules.queued Rules.discarded) ≡ bit (not b)
    go-discards true = refl
    go-discards false = refl

    go-failures : (b : Bool) → is_failure (pick b Rules.queued Rules.discarded) ≡ 0
    go-failures true = refl
    go-failures false = refl

enter-noted : (ev : Event) (l : Ledger) → Noted l → Noted (enter ev l)
unfolding enter lines_in
enter-noted ev l p = record {
  closed = closed_more [] l.notes _ ∙ append-nil (closed_by [] l.notes) ∙ p.closed;
  filling = filling_more [] l.notes _ ∙ rw p.filling;
  lines = made_more l.notes _ ∙ rw p.lines (rw append_assoc);
  discards = tally_more is_discard l.notes _ ∙ omega (arith, p.discards);
  failures = tally_more is_failure l.notes _ ∙ omega (arith, p.failures);
}

fail_noted : (l : Ledger) (bs : List Bool) → l.sends ≡ false ∷ bs → Noted l → Noted (failed_one bs l)
unfolding lines_in
fail_noted l bs e p = record {
  closed = closed_more [] l.notes _ ∙ append-nil (closed_by [] l.notes) ∙ p.closed;
  filling = filling_more [] l.notes _ ∙ p.filling;
  lines = made_more l.notes _ ∙ append-nil (made_in l.notes) ∙ p.lines;
  discards = tally_more is_discard l.notes _ ∙ omega (arith, p.discards);
  failures = tally_more is_failure l.notes _ ∙ omega (arith, p.failures, ap failures_in e);
}

noted_moves : (c : Limits) → Moves c (λ ev. Unit {0}) (λ l h. Noted l)
unfolding lines_in
noted_moves c = record {
  close = λ l h e p. close-noted c l p;
  begin = λ l h ev x e p. record { closed = p.closed; filling = rw e at p.filling; lines = rw e at p.lines; discards = p.discards; failures = p.failures };
  enter = λ l h ev x r p. enter-noted ev l p;
  take = λ l h f fs e p. record { closed = p.closed; filling = p.filling; lines = p.lines; discards = p.discards; failures = p.failures };
  fail = λ l h bs e p. fail_noted l bs e p;
}

pub noted_are : (c : Limits) (ops : List Op) → Noted (run_l c empty_ledger ops)
unfolding empty_ledger lines_in
noted_are c ops =
    run_move c (λ ev. Unit {0}) (λ l h. Noted l) (noted_moves c) empty_ledger [] ops (all_unit (events_in ops))
    (record { closed = refl; filling = refl; lines = refl; discards = refl; failures = refl })
