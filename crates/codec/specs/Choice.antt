-- A choice by a test, and an answer that is opened.
use Rattle.std.specs.Prelude.{ℕ, Bool, true, false, Option, Some, None, Result, Ok, Err}

abbrev pub pick : {A : Type 0} → Bool → A → A → A
pick true a b = a
pick false a b = b

-- what to do with what was got, and what to answer where nothing was
abbrev pub opened : {A B : Type 0} → Option A → (A → B) → B → B
opened (Some x) k z = k x
opened None k z = z

-- what to do with what was got; a refusal goes straight up
abbrev pub then : {A B E : Type 0} → Result A E → (A → Result B E) → Result B E
then (Ok x) k = k x
then (Err why) k = Err why

-- a flag as a bit
abbrev pub bit : Bool → ℕ
bit true = 1
bit false = 0
