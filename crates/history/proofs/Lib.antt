-- The rooms of the proof, each built on those above it (docs/HISTORY.md, "How the proof goes").
pub mod Ground
pub mod Sources
pub mod Ledger
pub mod Framer
pub mod Engine
pub mod Reader
pub mod Theorems
