-- A front of the bytes and then a front of the rest is a longer front of the bytes.
use Rattle.std.proofs.Common.{ℕ, ◌≡◌, ◌≤◌, ◌+◌, ◌-◌, ◌++◌, List, length, take, drop, length-drop, sym, ap, ◌∙◌, subst, arith}
use Rattle.std.proofs.lemmas.List.{take_rest}
use Rattle.std.proofs.Math.Seq.{take-add, drop-drop}
use Rattle.std.proofs.KnownBytes.{Appends-trans}
use Rattle.std.specs.Io.KnownBytes.{Appends}
use Rattle.console.proofs.write_all.Goals as goal

module _ (bytes rest : List ℕ) (n : ℕ) (f : n ≤ length rest) (h : length rest ≤ length bytes) (b : rest ≡ drop (length bytes - length rest) bytes) where
  abbrev new : List ℕ
  new = take (length rest - n) (drop n rest)

  new_is : new ≡ drop n rest
  new_is = take_rest rest n

  long : length new ≡ length rest - n
  long = ap length new_is ∙ length-drop n rest

  before : length bytes - length new ≡ (length bytes - length rest) + n
  before = let l = long in omega arith

  in_range : length new ≤ length bytes
  in_range = let l = long in omega arith

  behind : new ≡ drop (length bytes - length new) bytes
  behind = new_is ∙ ap (drop n) b ∙ drop-drop n (length bytes - length rest) bytes ∙ ap (λ k. drop k bytes) (sym before)

  front : take (length bytes - length rest) bytes ++ take n rest ≡ take (length bytes - length new) bytes
  front =
      ap (λ l. take (length bytes - length rest) bytes ++ take n l) b
      ∙ sym (take-add (length bytes - length rest) n bytes)
      ∙ ap (λ k. take k bytes) (sym before)

pub loop-rest-preserved : goal.loop-rest-preserved
loop-rest-preserved g c =
    let i = c.loop-rest.invariant in
    record {
      in_range = in_range _ _ _ c.in_ok-n.ensures.bound i.in_range i.behind;
      behind = behind _ _ _ c.in_ok-n.ensures.bound i.in_range i.behind;
      front = subst (Appends _ _) (front _ _ _ c.in_ok-n.ensures.bound i.in_range i.behind) (Appends-trans _ _ _ _ _ i.front c.in_ok-n.ensures.bytes);
    }
