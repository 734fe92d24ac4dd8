-- Demand 2 for frames as byte strings. Assumes nothing.
use Prim.Native.Nat.{ℕ, zero, suc, ◌+◌, ◌≤◌, ◌<◌}
use mathlib.Core.Path.{◌≡◌, refl, sym, ◌∙◌, ap}
use mathlib.Core.Bool.{Bool, true, false, ◌||◌}
use mathlib.Core.List.{List, [], ◌∷◌, ◌++◌, append-nil}
use native.Mathlib.Omega.{arith}
use lib.ListN.{length, take, drop, length-append, take-append-drop}
use lib.Dec.{eqb}
use lib.Seq.{drop-length, drop-drop}
use borrow.Author.Tests.{eq-eqb, ne_eqb}
use Rattle.std.specs.Prelude.{Option, Some, None, Result, Ok, Err}
use Rattle.codec.specs.Choice.{pick, then}
use Rattle.codec.specs.Number.{Bytes}
use Rattle.codec.specs.Time.{recovered_of}
use Rattle.codec.specs.Item.{encode}
use Rattle.codec.specs.Field.{read_item, bytes_at}
use Rattle.codec.specs.Header.{read_header, header_bytes, time_at}
use Rattle.codec.specs.Layout.{Entry, Head, AllValid, body, layout}
use Rattle.codec.specs.declared.time.Time.{Time}
use Rattle.codec.specs.declared.header.Header.{Header}
use Rattle.codec.specs.declared.refusal.Refusal.{Refusal}
use Rattle.codec.specs.declared.field.Decoded.{Decoded}
use Rattle.codec.proofs.Stands.{Stands, left, right, part_back, bytes_join}
use Rattle.codec.proofs.Inverse.{read_room, item_forth, header_got, header_forth}
use Rattle.codec.proofs.RoundTrip.{item_back, payload_back, header_back, encode_bytes, header-bytes}
use Rattle.codec.proofs.BoolLaws.{or_true, or_false}
use Rattle.codec.proofs.NumberLaws.{word_is}
use Rattle.codec.proofs.HeaderLaws.{header_length}
use Rattle.reader.proofs.AlongLaws.{walk_end, walk_item, items_end, items_item, starts_item, starts_here, starts_last}
use Rattle.reader.proofs.FrameLaws.{accepted, all_along, laid_length, body-length}
use Rattle.reader.specs.declared.place.Stepped.{Stepped}
use Rattle.codec.specs.declared.refusal.Refusal.{Refusal}
use Rattle.reader.specs.Frame.{resolved, walk_of, items_of, starts_of, Clean, judge_of, laid_out, step_of, payload_of, payload_at_of, item_at_of, time_in}
use Rattle.reader.specs.Listing.{stepping, listing, places_of, among, Framed}

-- the bytes from a place on are the layout of the items read there, and each item is valid
module _ (s : List ℕ) (b : Bytes s) where
  body_is : (at : ℕ) → at ≤ length s → Clean s at → (drop at s ≡ body (items_of s at)) × AllValid (items_of s at)
  body_is =
      all_along s (λ at. (drop at s ≡ body (items_of s at)) × AllValid (items_of s at))
      (λ at e. rw (items_end s at (omega arith)) (ap (λ (k : ℕ). drop k s) e ∙ drop-length s, tt))
      (λ at d k q x.
      let o = item_forth s at b q in
      let n : ℕ = length (encode d.item (bytes_at s d.start d.len)) in
      let y : take n (drop at s) ≡ encode d.item (bytes_at s d.start d.len) = part_back o.stands in
      let g : drop n (drop at s) ≡ drop d.next s = drop-drop n at s ∙ ap (λ (k : ℕ). drop k s) (sym o.ends) in
      let j : drop at s ≡ encode d.item (bytes_at s d.start d.len) ++ body (items_of s d.next) = sym (take-append-drop n (drop at s)) ∙ rw (y, g, x.0) in
      rw (items_item s at k q) (j, (o.valid, x.1)))

  -- what is accepted is a frame of the layout
  pub accepts : {h : Header} → judge_of s ≡ Ok h → Framed s h (items_of s 14)
  unfolding layout
  accepts {h} j =
      let a = accepted s j in
      let v = header_forth s b a.0 in
      let g = (header_got s a.0).long in
      let x = body_is 14 g a.1 in
      let n = laid_length s b a.0 a.1 in
      let t : s ≡ header_bytes h ++ body (items_of s 14) = sym (take-append-drop 14 s) ∙ rw (v.bytes, x.0) in
      record {
        head = record { sequence = v.sequence; sec = v.sec; nano = v.nano; total = rw n v.total };
        total = sym n;
        valid = x.1;
        bytes = t ∙ ap (λ (k : ℕ). header_bytes (record { sequence = h.sequence; time = h.time; length = k }) ++ body (items_of s 14)) (sym n);
      }

  -- so a rewrite gives the same bytes
  pub rewrite_same : {h : Header} → judge_of s ≡ Ok h → laid_out s h ≡ s
  unfolding laid_out
  rewrite_same j = sym (accepts j).bytes

-- reading a list of valid items that stands at a place to the end of the bytes gives it back
module _ (s : List ℕ) where
  read_back : (es : List Entry) (at : ℕ) → AllValid es → Stands s at (body es) → at + length (body es) ≡ length s
      → (walk_of s at ≡ Ok tt) × (items_of s at ≡ es)
  read_back [] at v w n = let e : length s ≤ at = omega arith in (walk_end s at e, items_end s at e)
  read_back (e ∷ es) at v w n =
      let w1 = left (encode e.item e.payload) (body es) w in
      let w2 = right (encode e.item e.payload) (body es) w in
      let q = item_back s at e v.0 w1 in
      let p = payload_back s at e v.0 w1 in
      let r = read_room s at q in
      let k : at < length s = omega arith in
      let m : at + length (encode e.item e.payload) + length (body es) ≡ length s
      = omega (arith, length-append (encode e.item e.payload) (body es)) in
      let x = read_back es (at + length (encode e.item e.payload)) v.1 w2 m in
      (walk_item s at k q ∙ x.0, items_item s at k q ∙ rw (p, x.1))

-- every number of a frame of the layout is a byte
body_bytes : (es : List Entry) → AllValid es → Bytes (body es)
body_bytes [] v = tt
body_bytes (e ∷ es) v = bytes_join (encode e.item e.payload) (body es) (encode_bytes e v.0) (body_bytes es v.1)

pub layout_bytes : (n : ℕ) (t : Time) (es : List Entry) → Head n t es → AllValid es → Bytes (layout n t es)
unfolding layout
layout_bytes n t es d v =
    bytes_join (header_bytes (record { sequence = n; time = t; length = length (body es) })) (body es)
    (header-bytes (record { sequence = n; time = t; length = length (body es) }) d.sequence) (body_bytes es v)

-- every frame of the layout is accepted, and read back as its header and its items
pub complete : (n : ℕ) (t : Time) (es : List Entry) → Head n t es → AllValid es
    → (judge_of (layout n t es) ≡ Ok (record { sequence = n; time = t; length = length (body es) })) × (items_of (layout n t es) 14 ≡ es)
unfolding judge_of layout
complete n t es d v =
    let h : Header = record { sequence = n; time = t; length = length (body es) } in
    let s : List ℕ = header_bytes h ++ body es in
    let k : length s ≡ 14 + length (body es) = length-append (header_bytes h) (body es) ∙ ap (λ (x : ℕ). x + length (body es)) (header_length h) in
    let w0 : Stands s 0 (header_bytes h) = record { pre = []; post = body es; split = refl; len = refl } in
    let w1 : Stands s 14 (body es) = record { pre = header_bytes h; post = []; split = sym (append-nil s); len = header_length h } in
    let q : read_header s ≡ Ok h = header_back s h d.sequence d.sec d.nano d.total k w0 in
    let x = read_back s es 14 v w1 (sym k) in
    (simp (q, x.0), x.1)

pub framed_read : {s : List ℕ} {h : Header} {es : List Entry} → Framed s h es → (judge_of s ≡ Ok h) × (items_of s 14 ≡ es)
framed_read {s} {h} {es} f =
    let c = complete h.sequence h.time es f.head f.valid in
    let e : ◌≡◌ {A = Header} (record { sequence = h.sequence; time = h.time; length = length (body es) }) h
    = ap (λ (k : ℕ). record { sequence = h.sequence; time = h.time; length = k }) (sym f.total) in
    (ap judge_of f.bytes ∙ c.0 ∙ ap Ok e, ap (λ (l : List ℕ). items_of l 14) f.bytes ∙ c.1)

-- the reader accepts exactly the frames of the layout: accepted if and only if the bytes are the layout of a header and a list
-- of valid items
pub exactly : (s : List ℕ) → Bytes s → (h : Header)
    → (judge_of s ≡ Ok h → Framed s h (items_of s 14)) × ((es : List Entry) → Framed s h es → judge_of s ≡ Ok h)
exactly s b h = (λ j. accepts s b j, λ es f. (framed_read f).0)

-- the header and the list are unique
pub unique : {s : List ℕ} {h k : Header} {es fs : List Entry} → Framed s h es → Framed s k fs → (h ≡ k) × (es ≡ fs)
unique {s} {h} {k} {es} {fs} f g =
    let a = framed_read f in
    let b = framed_read g in
    let e : ◌≡◌ {A = Result Header Refusal} (Ok h) (Ok k) = sym a.0 ∙ b.0 in
    (cc, sym a.1 ∙ b.1)

-- the place past the last item is among the places
last_place : (es : List Entry) (at : ℕ) → among (at + length (body es)) (places_of at es) ≡ true
last_place [] at = simp (eq-eqb at (at + 0) (omega arith))
last_place (e ∷ es) at =
    let n : at + length (body (e ∷ es)) ≡ at + length (encode e.item e.payload) + length (body es)
    = omega (arith, length-append (encode e.item e.payload) (body es)) in
    let x : among (at + length (body (e ∷ es))) (places_of (at + length (encode e.item e.payload)) es) ≡ true
    = ap (λ (k : ℕ). among k (places_of (at + length (encode e.item e.payload)) es)) n ∙ last_place es (at + length (encode e.item e.payload)) in
    rw x (or_true (eqb at (at + length (body (e ∷ es)))))

module _ (s : List ℕ) (b : Bytes s) {h : Header} (j : judge_of s ≡ Ok h) where
  pub time_is : time_in s ≡ h.time
  unfolding time_at
  time_is =
      let a = accepted s j in
      let g = (header_got s a.0).long in
      rw (word_is 6 s 2 (omega arith) (omega arith), word_is 4 s 8 (omega arith) (omega arith)) (ap (λ (x : Header). x.time) (header_got s a.0).is)

  -- on an accepted frame, at an item or the end, reading without judging is a step
  pub step_at : (at : ℕ) → starts_of s at 14 ≡ true → step_of s at ≡ item_at_of s at
  unfolding step_of
  step_at at e = simp (j, e)

  pub payload_is : (at : ℕ) → starts_of s at 14 ≡ true → payload_of s at ≡ payload_at_of s at
  unfolding payload_of item_at_of payload_at_of
  payload_is at e = rw (step_at at e) (go (eqb at (length s)) (read_item s at))
    where
      found : Decoded → Result (Option Stepped) Refusal
      found d = Ok (Some (record { next = d.next; time = recovered_of (time_in s) d.item.offset.0; item = d.item; length = d.len }))

      load : Result Decoded Refusal → List ℕ
      load r = resolved r (λ d. bytes_at s d.start d.len) (λ why. [])

      go : (b : Bool) (r : Result Decoded Refusal) → resolved (pick b (Ok None) (then r found)) (λ x. load r) (λ why. []) ≡ load r
      go true r = refl
      go false (Ok d) = refl
      go false (Err why) = refl

  end_at : (at : ℕ) → at ≡ length s → item_at_of s at ≡ Ok None
  unfolding item_at_of
  end_at at e = simp (eq-eqb at (length s) e)

  read_at : (at : ℕ) {d : Decoded} → at < length s → read_item s at ≡ Ok d
      → item_at_of s at ≡ Ok (Some (record { next = d.next; time = recovered_of h.time d.item.offset.0; item = d.item; length = d.len }))
  unfolding item_at_of
  read_at at k q = let n : at ≡ length s → ⊥ = λ z. omega arith in simp (ne_eqb at (length s) n, q, time_is)

  load_at : (at : ℕ) {d : Decoded} → read_item s at ≡ Ok d → payload_at_of s at ≡ bytes_at s d.start d.len
  unfolding payload_at_of
  load_at at q = simp q

  -- the places that an item or the end from `at` on are such places from the first on
  abbrev Reach : ℕ → Type 0
  Reach at = (p : ℕ) → starts_of s p at ≡ true → starts_of s p 14 ≡ true

  abbrev Stepwise : ℕ → Type 0
  Stepwise at = (n : ℕ) → length s ≤ at + n → Reach at → stepping n s at ≡ listing h.time at (items_of s at)

  steps_end : (at : ℕ) → at ≡ length s → Stepwise at
  unfolding stepping
  steps_end at m zero f r = rw (items_end s at (omega arith))
  steps_end at m (suc n) f r =
      let g : step_of s at ≡ Ok None = step_at at (r at (starts_last s at at m ∙ eq-eqb at at refl)) ∙ end_at at m in
      rw (items_end s at (omega arith)) (simp g)

  steps_item : (at : ℕ) (d : Decoded) → at < length s → read_item s at ≡ Ok d → Stepwise d.next → Stepwise at
  unfolding stepping
  steps_item at d k q x zero f r = let w : ⊥ = omega arith in absurd w
  steps_item at d k q x (suc n) f r =
      let z = read_room s at q in
      let o = item_forth s at b q in
      let st : starts_of s at 14 ≡ true = r at (starts_here s at at k refl q) in
      let g : step_of s at ≡ Ok (Some (record { next = d.next; time = recovered_of h.time d.item.offset.0; item = d.item; length = d.len })) = step_at at st ∙ read_at at k q in
      let p : payload_of s at ≡ bytes_at s d.start d.len = payload_is at st ∙ load_at at q in
      let y = x n (omega arith) (λ p v. r p (starts_item s p at k q ∙ rw v (or_true (eqb at p)))) in
      rw (items_item s at k q, ← o.ends, ← y) (simp (g, p))

  -- the items that stepping from place 14 yields are the frame's, each once, with its recovered time
  pub steps_yield : stepping (length s) s 14 ≡ listing h.time 14 (items_of s 14)
  steps_yield =
      let a = accepted s j in
      all_along s Stepwise steps_end steps_item 14 (header_got s a.0).long a.1 (length s) (omega arith) (λ p e. e)

  -- the chain of places ends at the end of the frame, which says so
  pub chain_ends : 14 + length (body (items_of s 14)) ≡ length s
  chain_ends =
      let a = accepted s j in
      body-length s b 14 (header_got s a.0).long a.1

  -- the places that are taken are those of the items and the end, and no others
  starts-at : (p at : ℕ) → at ≤ length s → Clean s at → starts_of s p at ≡ among p (places_of at (items_of s at))
  starts-at p =
      all_along s (λ at. starts_of s p at ≡ among p (places_of at (items_of s at)))
      (λ at m. starts_last s p at m ∙ rw (items_end s at (omega arith)) (sym (or_false (eqb at p))))
      (λ at d k q x.
      starts_item s p at k q ∙ rw (items_item s at k q, ← (item_forth s at b q).ends) (ap (λ (w : Bool). eqb at p || w) x))

  pub starts_exactly : (p : ℕ) → starts_of s p 14 ≡ among p (places_of 14 (items_of s 14))
  starts_exactly p =
      let a = accepted s j in
      starts-at p 14 (header_got s a.0).long a.1

  -- the last of them is the end of the frame, which says so
  pub end_says : step_of s (length s) ≡ Ok None
  end_says =
      let m : among (length s) (places_of 14 (items_of s 14)) ≡ true = rw (← chain_ends) (last_place (items_of s 14) 14) in
      step_at (length s) (starts_exactly (length s) ∙ m) ∙ end_at (length s) refl
