-- Readings of `History`: all frames in one row; where nothing was discarded and nothing waits or is being filled, the frames taken
-- hold every line; and if no send failed either, they hold exactly the accepted reports and the state items called for.
use Prim.Native.Nat.{ℕ, ◌+◌}
use mathlib.Core.Path.{◌≡◌, refl, sym, ◌∙◌, ap}
use mathlib.Core.Bool.{Bool, true, false, true≢false, false≢true}
use mathlib.Core.List.{List, [], ◌∷◌, ◌++◌, map, append-nil}
use native.Mathlib.Omega.{arith}
use lib.ListN.{length, take-append-drop}
use lib.Dec.{leb}
use borrow.Author.Tests.{le-leb}
use Rattle.codec.specs.Choice.{pick}
use Rattle.codec.specs.declared.item.Item.{Item}
use Rattle.reader.specs.Listing.{Yield, stepping}
use Rattle.mirror.specs.Engine.{discards_of, failures_of}
use Rattle.mirror.specs.declared.engine.Engine.{Engine}
use Rattle.mirror.specs.Call.{beside}
use Rattle.history.specs.Account.{Account}
use Rattle.history.specs.Ledger.{Limits, Line, Frame, Closed, Ledger, state_in, item_in, Note, is_empty, kept_in, discarded_in, discard_count, taken_in, waiting_in, failure_count, filling_in, lines_closed, lines_in, made_in, is_discard, is_failure, tally}
use Rattle.history.specs.Ledger as Rules
use Rattle.history.specs.Deed.{Deed, events_on}
use Rattle.history.specs.Loss.{lost_bit, Marks}
use Rattle.history.specs.History.{All, Both, Shows, Reads, frames_taken, frames_waiting, frames_filling, History, yields_in, ShowsEvent}
use Rattle.history.proofs.Ground.ListLaws.{empty_is, length_none, both_append, both_none}

-- the lines of frames, one frame after the other
abbrev lines_of : List Frame → List Line
lines_of [] = []
lines_of (f ∷ fs) = f.lines ++ lines_of fs

-- stepping through frames shows their lines
yields_lines : (ss : List (List ℕ)) (fs : List Frame) → Both Reads ss fs → Both Shows (yields_in ss) (lines_of fs)
yields_lines [] [] b = tt
yields_lines [] (f ∷ fs) b = absurd b
yields_lines (s ∷ ss) [] b = absurd b
yields_lines (s ∷ ss) (f ∷ fs) b = both_append Shows (stepping (length s) s 14) (yields_in ss) f.lines (lines_of fs) b.0.lines (yields_lines ss fs b.1)

-- where none is discarded, all are kept, and no line shows a loss
keeps : (b : Bool) (f : Frame) (fs : List Frame) → pick b [] (f ∷ []) ++ fs ≡ [] → (b ≡ true) × (fs ≡ [])
keeps true f fs e = (refl, e)
keeps false f fs e = absurd (false≢true (ap is_empty e))

kept_lines : (ks : List Closed) → discarded_in ks ≡ [] → lines_of (kept_in ks) ≡ lines_closed ks
kept_lines [] e = refl
kept_lines (k ∷ ks) e = let q = keeps k.kept k.frame (discarded_in ks) e in rw q.0 (ap (λ (xs : List Line). k.frame.lines ++ xs) (kept_lines ks q.1))

abbrev Unlost : Line → Type 0
Unlost x = lost_bit (item_in x).state ≡ false

unlost : (ns : List Note) (pending : Bool) → tally is_discard ns ≡ 0 → tally is_failure ns ≡ 0 → Marks false ns pending → All Unlost (made_in ns)
unlost [] pending d f m = tt
unlost (Rules.made x ∷ ns) pending d f m = (m.0, unlost ns pending (omega arith) (omega arith) m.1)
unlost (Rules.queued ∷ ns) pending d f m = unlost ns pending (omega arith) (omega arith) m
unlost (Rules.discarded ∷ ns) pending d f m = let z : ⊥ = omega arith in absurd z
unlost (Rules.unsent ∷ ns) pending d f m = let z : ⊥ = omega arith in absurd z

-- a line that shows no loss is its event, with the offset that is read
not_lost : (x : Line) → Unlost x → x.lost ≡ false
unfolding item_in state_in
not_lost x e = go x.lost refl
  where
    go : (b : Bool) → x.lost ≡ b → x.lost ≡ false
    go true q =
        let z : leb 128 (x.event.state + 128) ≡ false = rw q at e in
        absurd (true≢false (sym (le-leb 128 (x.event.state + 128) (omega arith)) ∙ z))
    go false q = q

shows_event : (y : Yield) (x : Line) → Unlost x → Shows y x → ShowsEvent y x.event
unfolding item_in
shows_event y x e s =
    let o : x.offset ≡ y.item.offset.0 = sym (ap (λ (i : Item). i.offset.0) s.item) in
    let z : ◌≡◌ {A = Line} x (record { event = x.event; offset = y.item.offset.0; lost = false })
    = λ i. record { event = x.event; offset = o i; lost = not_lost x e i } in
    record { item = s.item ∙ ap item_in z; payload = s.payload; never_after = s.never_after; near = s.near }

shows_events : (ys : List Yield) (xs : List Line) → All Unlost xs → Both Shows ys xs
    → Both ShowsEvent ys (map (λ (x : Line). x.event) xs)
shows_events [] [] a b = tt
shows_events [] (x ∷ xs) a b = absurd b
shows_events (y ∷ ys) [] a b = absurd b
shows_events (y ∷ ys) (x ∷ xs) a b = (shows_event y x a.0 b.0, shows_events ys xs a.1 b.1)

filled_none : (f : Frame) → pick (is_empty f.lines) [] (f ∷ []) ≡ [] → f.lines ≡ []
filled_none f e = go (is_empty f.lines) refl
  where
    go : (b : Bool) → is_empty f.lines ≡ b → f.lines ≡ []
    go true q = empty_is f.lines q
    go false q = absurd (false≢true (ap is_empty (rw q at e)))

module _ (c : Limits) (book : List Account) (ds : List Deed) (l : Ledger) (u : Engine) (h : History c book ds l u) where
  -- a, in one row
  pub in_order : Both Reads (frames_taken ds ++ frames_waiting u ++ frames_filling u) (kept_in l.closed ++ filling_in l)
  unfolding taken_in waiting_in
  in_order =
      rw (← take-append-drop (length l.sends) (kept_in l.closed))
      (both_append Reads (frames_taken ds ++ frames_waiting u) (frames_filling u) (taken_in l ++ waiting_in l) (filling_in l)
      (both_append Reads (frames_taken ds) (frames_waiting u) (taken_in l) (waiting_in l) h.taken h.waiting) h.filling)

  module _ (none : beside (λ n. n) (discards_of u) ≡ 0) (drained : frames_waiting u ≡ []) (flushed : frames_filling u ≡ []) where
    none-discarded : discarded_in l.closed ≡ []
    unfolding discard_count
    none-discarded =
        let m : discard_count l ≡ 0 = rw h.discards at none in
        length_none (discarded_in l.closed) (omega arith)

    none-filling : l.filling.lines ≡ []
    unfolding filling_in
    none-filling = filled_none l.filling (both_none Reads (frames_filling u) (filling_in l) flushed h.filling)

    all-taken : taken_in l ≡ kept_in l.closed
    unfolding taken_in waiting_in
    all-taken =
        let w : waiting_in l ≡ [] = both_none Reads (frames_waiting u) (waiting_in l) drained h.waiting in
        sym (append-nil (taken_in l)) ∙ ap (λ (fs : List Frame). taken_in l ++ fs) (sym w) ∙ take-append-drop (length l.sends) (kept_in l.closed)

    lines-taken : lines_of (taken_in l) ≡ lines_in l
    unfolding lines_in
    lines-taken = rw (all-taken, kept_lines l.closed none-discarded, none-filling) (sym (append-nil (lines_closed l.closed)))

    -- the frames taken hold every line that was made, whether or not a send failed
    pub in-full : Both Shows (yields_in (frames_taken ds)) (lines_in l)
    in-full = rw (← lines-taken) (yields_lines (frames_taken ds) (taken_in l) h.taken)

    -- and if none failed, each shows its event alone
    pub lossless : beside (λ n. n) (failures_of u) ≡ 0 → Both ShowsEvent (yields_in (frames_taken ds)) (events_on book ds)
    unfolding failure_count
    lossless unfailed =
        let f : failure_count l ≡ 0 = rw h.failures at unfailed in
        let clear : All Unlost (made_in l.notes)
        = unlost l.notes l.lost (h.noted.discards ∙ ap length none-discarded) (h.noted.failures ∙ omega arith) h.marks in
        rw (← h.items) (shows_events (yields_in (frames_taken ds)) (lines_in l) (rw h.noted.lines at clear) in-full)
