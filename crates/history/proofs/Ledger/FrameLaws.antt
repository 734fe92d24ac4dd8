-- What every frame of the ledger is: its header and lines may stand in bytes, and each offset dates its line.
use Prim.Native.Nat.{ℕ, ◌+◌, ◌*◌, ◌≤◌, ◌<◌}
use mathlib.Core.Path.{◌≡◌, refl, ◌∙◌}
use mathlib.Core.Bool.{Bool, true, false, true≢false}
use mathlib.Core.List.{List, [], ◌∷◌, ◌++◌, map}
use native.Mathlib.Omega.{arith}
use lib.ListN.{length, length-append}
use lib.Dec.{leb}
use borrow.Author.Tests.{leb-true}
use Rattle.codec.specs.Choice.{pick}
use Rattle.codec.specs.Time.{ns, time_ok}
use Rattle.codec.specs.Item.{encode}
use Rattle.codec.specs.Layout.{StateFits, Valid, AllValid, Head, body}
use Rattle.codec.specs.declared.time.Time.{Time}
use Rattle.std.specs.Prelude.{Some, None}
use Rattle.codec.proofs.BoolLaws.{and_l, and_r}
use Rattle.codec.proofs.ItemLaws.{encode-length}
use Rattle.history.specs.Account.{Event}
use Rattle.history.specs.Ledger.{Limits, Line, Frame, Closed, Ledger, empty_ledger, Op, state_in, item_in, entry_in, size_in, total, is_empty, kept_in, offset_in, line_for, close, enter, run_l, filling_in}
use Rattle.history.specs.History.{All}
use Rattle.history.proofs.Ground.Machine.{Fit, FitOp, laid}
use Rattle.history.proofs.Ground.ListLaws.{not_empty, all_append, all_kept}
use Rattle.history.proofs.Ledger.Moves.{fit_events, Ready, Moves, run_move}
use Rattle.history.proofs.Ground.PadLaws.{layout-length}

-- the lengths that the rules reckon with are those of the bytes
pub total_body : (xs : List Line) → length (body (map entry_in xs)) ≡ total xs
unfolding size_in
total_body [] = refl
total_body (x ∷ xs) = length-append (encode (item_in x) x.event.payload) (body (map entry_in xs)) ∙ rw (encode-length (item_in x) x.event.payload, total_body xs)

pub laid_length : (f : Frame) → length (laid f) ≡ 14 + total f.lines
unfolding laid
laid_length f = layout-length f.sequence f.time (map entry_in f.lines) ∙ rw (total_body f.lines)

pub total_more : (xs : List Line) (x : Line) → total (xs ++ (x ∷ [])) ≡ total xs + size_in x
total_more [] x = omega arith
total_more (y ∷ xs) x = omega (arith, total_more xs x)

-- an offset dates its line from the header time t, less than 10,000 ns early
pub record Dated (t : Time) (x : Line) : Type 0 where
  pub offset : x.offset ≤ 65535
  pub never_after : ns t + x.offset * 10000 ≤ ns x.event.time
  pub near : ns x.event.time < ns t + x.offset * 10000 + 10000

-- what a reader needs of a closed frame
pub record Good (c : Limits) (f : Frame) : Type 0 where
  pub head : Head f.sequence f.time (map entry_in f.lines)
  pub valid : AllValid (map entry_in f.lines)
  pub size : 14 + total f.lines ≤ c.size
  pub filled : f.lines ≡ [] → ⊥
  pub dated : All (Dated f.time) f.lines

-- the same of the frame being filled, which may have no line yet
record Fair (c : Limits) (f : Frame) : Type 0 where
  sequence : f.sequence < 256
  time : time_ok f.time ≡ true
  valid : AllValid (map entry_in f.lines)
  size : is_empty f.lines ≡ false → 14 + total f.lines ≤ c.size
  dated : All (Dated f.time) f.lines

time-ok : (t : Time) → time_ok t ≡ true → (t.sec ≤ 281474976710655) × (t.nano ≤ 999999999)
time-ok t e = (
  leb-true t.sec 281474976710655 (and_l (leb t.sec 281474976710655) (leb t.nano 999999999) e),
  leb-true t.nano 999999999 (and_r (leb t.sec 281474976710655) (leb t.nano 999999999) e),
)

fair_good : (c : Limits) (f : Frame) → c.size ≤ 1024 → is_empty f.lines ≡ false → Fair c f → Good c f
fair_good c f s e p =
    let t = time-ok f.time p.time in
    let n = total_body f.lines in
    let k = p.size e in
    record {
      head = record { sequence = p.sequence; sec = t.0; nano = t.1; total = omega arith };
      valid = p.valid;
      size = k;
      filled = not_empty f.lines e;
      dated = p.dated;
    }

-- the line of an event that is entered
state_fits : (x : Line) → x.event.state < 128 → StateFits (state_in x)
unfolding state_in
state_fits x h = go x.lost x.event.due x.event.state h
  where
    go : (a b : Bool) (n : ℕ) → n < 128 → StateFits (pick a (Some (n + 128)) (pick b (Some n) None))
    go true b n k = omega arith
    go false true n k = omega arith
    go false false n k = tt

line_valid : (c : Limits) (x : Line) → Fit c x.event → x.offset ≤ 65535 → Valid (entry_in x)
unfolding item_in
line_valid c x f h = record {
  ok = f.ok x.offset x.lost;
  offset = omega arith;
  network = f.network;
  state = state_fits x f.state;
  ident = f.ident;
  payload = f.payload;
}

line_dated : (c : Limits) (ev : Event) (l : Ledger) → Ready c ev l → Dated l.filling.time (line_for l ev)
unfolding line_for offset_in
line_dated c ev l r = let a = r.later in record { offset = r.near; never_after = omega arith; near = omega arith }

valid_snoc : (xs : List Line) (x : Line) → AllValid (map entry_in xs) → Valid (entry_in x) → AllValid (map entry_in (xs ++ (x ∷ [])))
valid_snoc [] x p q = (q, tt)
valid_snoc (y ∷ xs) x p q = (p.0, valid_snoc xs x p.1 q)

enter_fair : (c : Limits) (ev : Event) (l : Ledger) → Fit c ev → Ready c ev l → Fair c l.filling → Fair c (enter ev l).filling
unfolding enter
enter_fair c ev l f r p =
    let x = line_for l ev in
    let d = line_dated c ev l r in
    record {
      sequence = p.sequence;
      time = p.time;
      valid = valid_snoc l.filling.lines x p.valid (line_valid c x (unfold line_for in f) d.offset);
      size = λ e. omega (arith, total_more l.filling.lines x, r.room f);
      dated = all_append (Dated l.filling.time) l.filling.lines (x ∷ []) p.dated (d, tt);
    }

-- a ledger of such frames; n is its next sequence number
record Fine (c : Limits) (ks : List Closed) (f : Frame) (n : ℕ) : Type 0 where
  closed : All (λ (k : Closed). Good c k.frame) ks
  filling : Fair c f
  next : n < 256

abbrev FineL : Limits → Ledger → Type 0
FineL c l = Fine c l.closed l.filling l.next

-- a frame without lines
blank_fair : (c : Limits) (n : ℕ) (t : Time) → n < 256 → time_ok t ≡ true → Fair c (record { sequence = n; time = t; lines = [] })
blank_fair c n t h e = record { sequence = h; time = e; valid = tt; size = λ z. absurd (true≢false z); dated = tt }

close_fine : (c : Limits) (l : Ledger) → c.size ≤ 1024 → is_empty l.filling.lines ≡ false → FineL c l → FineL c (close c l)
unfolding close
close_fine c l s e p =
    record {
      closed = all_append (λ (k : Closed). Good c k.frame) l.closed _ p.closed (fair_good c l.filling s e p.filling, tt);
      filling = blank_fair c l.filling.sequence l.filling.time p.filling.sequence p.filling.time;
      next = p.next;
    }

fine_moves : (c : Limits) → c.size ≤ 1024 → Moves c (Fit c) (λ l h. FineL c l)
unfolding enter
fine_moves c s = record {
  close = λ l h e p. close_fine c l s e p;
  begin = λ l h ev x e p. record { closed = p.closed; filling = blank_fair c l.next ev.time p.next x.time; next = omega arith };
  enter = λ l h ev x r p. record { closed = p.closed; filling = enter_fair c ev l x r p.filling; next = p.next };
  take = λ l h f fs e p. p;
  fail = λ l h bs e p. p;
}

module _ (c : Limits) (ops : List Op) (s : c.size ≤ 1024) (x : All (FitOp c) ops) where
  fine : FineL c (run_l c empty_ledger ops)
  unfolding empty_ledger
  fine =
      run_move c (Fit c) (λ l h. FineL c l) (fine_moves c s) empty_ledger [] ops (fit_events c ops x)
      (record { closed = tt; filling = blank_fair c 0 (record { sec = 0; nano = 0 }) (omega arith) refl; next = omega arith })

  pub good_filling : All (Good c) (filling_in (run_l c empty_ledger ops))
  unfolding filling_in
  good_filling = go (is_empty (run_l c empty_ledger ops).filling.lines) refl
    where
      go : (b : Bool) → is_empty (run_l c empty_ledger ops).filling.lines ≡ b → All (Good c) (pick b [] ((run_l c empty_ledger ops).filling ∷ []))
      go true e = tt
      go false e = (fair_good c (run_l c empty_ledger ops).filling s e fine.filling, tt)

  pub good_frames : All (λ (k : Closed). Good c k.frame) (run_l c empty_ledger ops).closed × All (Good c) (filling_in (run_l c empty_ledger ops))
  good_frames = (fine.closed, good_filling)

  pub good_kept : All (Good c) (kept_in (run_l c empty_ledger ops).closed)
  good_kept = all_kept (Good c) (run_l c empty_ledger ops).closed fine.closed
