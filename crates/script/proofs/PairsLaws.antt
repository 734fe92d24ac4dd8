-- Laws of the numbers of a setup line: what the loop keeps, and what it has shown at its end. Assumes nothing.
use Prim.Native.Nat.{ℕ, suc, ◌+◌, ◌-◌, ◌≤◌, ◌<◌}
use mathlib.Core.Path.{◌≡◌, sym, ◌∙◌, ap}
use mathlib.Core.Bool.{true, false}
use mathlib.Core.List.{List, [], ◌∷◌}
use native.Mathlib.Numerals.{add-one}
use native.Mathlib.Omega.{arith}
use lib.ListN.{length, take, drop, set, get_or, length-take, drop_of_length-le}
use lib.Seq.{take-nil, sets, drop-cons}
use Rattle.codec.proofs.Opened.{chosen, never}
use Rattle.std.specs.Prelude.{Option, Some, None}
use Rattle.std.specs.Iterator.{Yields}
use Rattle.std.proofs.lemmas.Iterator.{YieldsList}
use Rattle.std.proofs.lemmas.Iterator.Consumers.{YieldsList-turn, YieldsList-end}
use Rattle.script.specs.Word.{narrow_of}
use Rattle.script.specs.Pairs.{all_numbers, numbers_of, Gathered}

-- the words that a loop goes over: the steps come first, since they say which closure parts them
module _ {S A B : Type 0} {steps : S → Option A → S → Type 0} {v : A → B} {s : S} {all : List B} (t u : S) (xs : List A) (r : Option A) where
  pub turn : Yields steps s xs t → steps t r u → (x : A) → r ≡ Some x → YieldsList steps v s all → (length xs < length all) × (v x ≡ get_or all (length xs) (v x))
  turn y f x e l = YieldsList-turn l xs t y r u x e f

  pub over : Yields steps s xs t → steps t r u → r ≡ None → YieldsList steps v s all → length all ≤ length xs
  over y f e l = let d = (YieldsList-end l xs t y r u e f).1 in omega arith

-- n of the first k words stand at the front of out
pub record Gathering (ws : List (List ℕ)) (l out : List ℕ) (k n : ℕ) : Type 0 where
  pub room : n ≤ 18
  pub good : all_numbers ws ≡ all_numbers (drop k ws)
  pub count : length (take 18 (numbers_of ws)) ≡ n + length (take (18 - n) (numbers_of (drop k ws)))
  pub list : sets l 0 (take 18 (numbers_of ws)) ≡ sets out n (take (18 - n) (numbers_of (drop k ws)))

module _ {ws : List (List ℕ)} {l out : List ℕ} {k n : ℕ} (g : Gathering ws l out k n) where
  pub gathering_end : length ws ≤ k → Gathered ws l out (Some n)
  gathering_end h =
      let p : drop k ws ≡ [] = drop_of_length-le ws h in
      let q : take (18 - n) (numbers_of (drop k ws)) ≡ [] = rw p (take-nil (18 - n)) in
      let c : length (take 18 (numbers_of ws)) ≡ n = g.count ∙ rw q (omega arith) in
      let t : all_numbers ws ≡ true = g.good ∙ rw p in
      record { list = sym (g.list ∙ ap (sets out n) q); answer = rw (t, c) }

  module _ (w : List ℕ) (h : k < length ws) (e : w ≡ get_or ws k w) where
    next : drop k ws ≡ w ∷ drop (k + 1) ws
    next = rw (add-one) (drop-cons ws k w h ∙ ap (λ (x : List ℕ). x ∷ drop (suc k) ws) (sym e))

    -- the word is no number
    pub gathering_bad : {r : Option ℕ} → r ≡ narrow_of w → r ≡ None → Gathered ws l out None
    gathering_bad q z =
        let x : narrow_of w ≡ None = sym q ∙ z in
        let p : take (18 - n) (numbers_of (drop k ws)) ≡ [] = rw (next, x) (take-nil (18 - n)) in
        let t : all_numbers ws ≡ false = g.good ∙ rw (next, x) in
        record { list = sym (g.list ∙ ap (sets out n) p); answer = rw t }

    module _ {v : ℕ} {r : Option ℕ} (q : r ≡ narrow_of w) (z : r ≡ Some v) where
      x : narrow_of w ≡ Some v
      x = sym q ∙ z

      -- one more number
      pub gathering_kept : n < 18 → Gathering ws l (set out n v) (k + 1) (n + 1)
      gathering_kept b =
          let s : 18 - n ≡ suc (18 - (n + 1)) = omega arith in
          record {
            room = omega arith;
            good = g.good ∙ rw (next, x);
            count = g.count ∙ rw (next, x, s) (omega arith);
            list = g.list ∙ rw (next, x, s, add-one n);
          }

      -- 18 stand already
      pub gathering_past : 18 ≤ n → Gathering ws l out (k + 1) n
      gathering_past b =
          let f = g.room in
          let s : 18 - n ≡ 0 = omega arith in
          record { room = omega arith; good = g.good ∙ rw (next, x); count = g.count ∙ rw (next, x, s); list = g.list ∙ rw (next, x, s) }

-- never more than 18
pub gathered_most : {ws : List (List ℕ)} {l l' : List ℕ} {n : ℕ} → Gathered ws l l' (Some n) → n ≤ 18
gathered_most {ws} {l} {l'} {n} g =
    chosen (all_numbers ws) (Some (length (take 18 (numbers_of ws)))) None (sym g.answer) (λ z. never (cc))
    (λ t q.
    let k : length (take 18 (numbers_of ws)) ≡ n = cc in
    omega (arith, length-take 18 (numbers_of ws)))
