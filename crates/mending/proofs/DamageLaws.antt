-- A field is judged and kept by its own bytes alone, whatever became of the others. Assumes nothing.
use Prim.Native.Nat.{ℕ}
use mathlib.Core.Path.{◌≡◌, sym, ◌∙◌}
use mathlib.Core.Bool.{false}
use mathlib.Core.List.{List, [], ◌∷◌, ◌++◌, map, append_assoc}
use native.Mathlib.Omega.{arith}
use lib.ListN.{length}
use Rattle.recording.specs.File.{size_in, complete, first, left_of, finding_of, findings_of}
use Rattle.recording.specs.Calls.{join}
use Rattle.recording.proofs.FileLaws.{is_there, findings_end, findings_append}
use Rattle.mending.specs.Copy.{kept_by, copy_of}
use Rattle.mending.specs.Damage.{Whole, AllWhole, Struck, AllStruck, kept_fields}
use Rattle.mending.proofs.CopyLaws.{copy_end, copy_append, whole_findings, whole_copy}

-- between two files
module _ (s x t : List ℕ) (l : left_of s ≡ []) (w : Whole x) where
  pub judged_alone : findings_of (s ++ (x ++ t)) ≡ findings_of s ++ (finding_of (first x) ∷ findings_of t)
  judged_alone = findings_append s (x ++ t) ∙ rw (l, whole_findings x t w)

  pub kept_alone : copy_of (s ++ (x ++ t)) ≡ copy_of s ++ (kept_by (first x) x ++ copy_of t)
  kept_alone = copy_append (x ++ t) s ∙ rw (l, whole_copy x t w)

-- a field whose tag and body are damaged, and whose length is not, is a field still
struck_whole : (x y : List ℕ) → Whole x → Struck x y → Whole y
struck_whole x y w h =
    let e : size_in y ≡ length y = rw (h.high, h.low) (w.size ∙ sym h.size) in
    record { there = is_there y (omega arith); size = e }

struck_all : (xs ys : List (List ℕ)) → AllWhole xs → AllStruck xs ys → AllWhole ys
struck_all [] [] w h = tt
struck_all [] (y ∷ ys) w h = absurd h
struck_all (x ∷ xs) [] w h = absurd h
struck_all (x ∷ xs) (y ∷ ys) w h = (struck_whole x y w.0 h.0, struck_all xs ys w.1 h.1)

-- fields one after another, and at the end less than a field
module _ (r : List ℕ) (c : complete r ≡ false) where
  fields_judged : (ys : List (List ℕ)) → AllWhole ys → findings_of (join ys ++ r) ≡ map (λ (y : List ℕ). finding_of (first y)) ys
  fields_judged [] w = findings_end r c
  fields_judged (y ∷ ys) w =
      rw (append_assoc y (join ys) r) (whole_findings y (join ys ++ r) w.0 ∙ rw (fields_judged ys w.1))

  fields_kept : (ys : List (List ℕ)) → AllWhole ys → copy_of (join ys ++ r) ≡ kept_fields ys
  fields_kept [] w = copy_end r c
  fields_kept (y ∷ ys) w = rw (append_assoc y (join ys) r) (whole_copy y (join ys ++ r) w.0 ∙ rw (fields_kept ys w.1))

  -- WHAT DAMAGE COSTS: where ys are read in the place of xs and no length was hit, each of them is judged, and kept or dropped, by
  -- its own bytes. So a field that was not hit is what it was, whatever its neighbours are.
  pub damage_judged : (xs ys : List (List ℕ)) → AllWhole xs → AllStruck xs ys → findings_of (join ys ++ r) ≡ map (λ (y : List ℕ). finding_of (first y)) ys
  damage_judged xs ys w h = fields_judged ys (struck_all xs ys w h)

  pub damage_kept : (xs ys : List (List ℕ)) → AllWhole xs → AllStruck xs ys → copy_of (join ys ++ r) ≡ kept_fields ys
  damage_kept xs ys w h = fields_kept ys (struck_all xs ys w h)
