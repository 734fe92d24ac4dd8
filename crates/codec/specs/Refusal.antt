-- The reader's refusals by their numbers (docs/RULES.md, "Reading a frame").
use Rattle.std.specs.Prelude.{ℕ}
use Rattle.codec.specs.declared.refusal.Refusal.{Refusal}

abbrev pub number_of : Refusal → ℕ
number_of Refusal.Short = 20
number_of Refusal.Version = 21
number_of Refusal.Length = 22
number_of Refusal.Missing = 23
number_of Refusal.Network = 24
number_of Refusal.Reserved = 25
number_of Refusal.Flags = 26
number_of Refusal.Payload = 27
number_of Refusal.Nanos = 28
number_of Refusal.Range = 29
number_of Refusal.Place = 30
