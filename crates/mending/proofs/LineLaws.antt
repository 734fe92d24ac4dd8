-- No line of a check is longer than 72 bytes, so that none is left out where as many are lent. Assumes nothing.
use Prim.Native.Nat.{ℕ, ◌≤◌}
use mathlib.Core.Path.{◌≡◌, refl, ◌∙◌}
use mathlib.Core.Bool.{Bool, true, false}
use mathlib.Core.List.{List, [], ◌∷◌}
use native.Mathlib.Omega.{arith}
use lib.ListN.{length, take}
use lib.Dec.{eqb}
use borrow.Author.Tests.{ne_eqb}
use Rattle.codec.specs.Choice.{pick}
use Rattle.codec.specs.Number.{Wrote}
use Rattle.std.specs.Prelude.{Option, Result, Ok, Err}
use Rattle.text.specs.Draft.{row_of}
use Rattle.text.proofs.DraftLaws.{row_most, row_put}
use Rattle.recording.specs.Error.{number_of}
use Rattle.recording.specs.declared.error.RecordError.{RecordError}
use Rattle.recording.specs.declared.field.Found.{Found}
use Rattle.mending.specs.Check.{name_of, found_line, rest_text, fields_line}
use Rattle.mending.specs.declared.check.Tally.{Tally}

most : (name vs : List ℕ) → length name ≤ 8 → length vs ≤ 3 → length (row_of name vs) ≤ 72
most name vs = row_most 8 3 name vs

-- so that a line of 128 has room for any
pub said : (name vs : List ℕ) {d l l' : List ℕ} {at : ℕ} {r : Option ℕ} → d ≡ take 128 (row_of name vs) → Wrote true l at d l' r → length name ≤ 8 → length vs ≤ 3
    → Wrote true l at (row_of name vs) l' r
said name vs e w p q = row_put {n = 128} 8 3 name vs e w p q (omega arith)

-- the line of a field that is not bad
name_most : (found : Found) → length (name_of found) ≤ 8
name_most (Found.Frame h) = omega arith
name_most Found.Note = omega arith
name_most (Found.Start t) = omega arith
name_most Found.Skipped = omega arith

named_line : (tag n : ℕ) (found : Found) → row_of (name_of found) (tag ∷ n ∷ []) ≡ found_line tag n (Ok found)
named_line tag n (Found.Frame h) = refl
named_line tag n Found.Note = refl
named_line tag n (Found.Start t) = refl
named_line tag n Found.Skipped = refl

pub named_most : (found : Found) {name : List ℕ} → name ≡ name_of found → length name ≤ 8
named_most found e = rw e (name_most found)

pub named : (tag n : ℕ) (found : Found) {name l l' : List ℕ} {at : ℕ} {r : Option ℕ} → name ≡ name_of found → Wrote true l at (row_of name (tag ∷ n ∷ [])) l' r
    → Wrote true l at (found_line tag n (Ok found)) l' r
named tag n found e w = rw (← named_line tag n found, ← e) w

pub rest_some : (n : ℕ) → (n ≡ 0 → ⊥) → rest_text n ≡ row_of (114 ∷ 101 ∷ 115 ∷ 116 ∷ []) (40 ∷ n ∷ [])
unfolding rest_text
rest_some n h = rw (ne_eqb n 0 h)

pub line_most : (tag n : ℕ) (found : Result Found RecordError) → length (found_line tag n found) ≤ 72
line_most tag n (Ok (Found.Frame h)) = most _ (tag ∷ n ∷ []) (omega arith) (omega arith)
line_most tag n (Ok Found.Note) = most (103 ∷ 111 ∷ 111 ∷ 100 ∷ []) (tag ∷ n ∷ []) (omega arith) (omega arith)
line_most tag n (Ok (Found.Start t)) = most (103 ∷ 111 ∷ 111 ∷ 100 ∷ []) (tag ∷ n ∷ []) (omega arith) (omega arith)
line_most tag n (Err why) = most _ (tag ∷ number_of why ∷ n ∷ []) (omega arith) (omega arith)
line_most tag n (Ok Found.Skipped) = most _ (tag ∷ n ∷ []) (omega arith) (omega arith)

pub rest_most : (n : ℕ) → length (rest_text n) ≤ 72
unfolding rest_text
rest_most n = go (eqb n 0) (114 ∷ 101 ∷ 115 ∷ 116 ∷ []) (omega arith)
  where
    go : (b : Bool) (name : List ℕ) → length name ≤ 8 → length (pick b [] (row_of name (40 ∷ n ∷ []))) ≤ 72
    go true name h = omega arith
    go false name h = most name (40 ∷ n ∷ []) h (omega arith)

pub fields_most : (t : Tally) (unknown : ℕ) → length (fields_line t unknown) ≤ 72
fields_most t unknown = most _ (t.good ∷ t.bad ∷ unknown ∷ []) (omega arith) (omega arith)
