-- The statements: `history`, and what stands beside it.
pub mod Theorem
pub mod Lossless
pub mod Tape
pub mod Told
pub mod Own
pub mod Drain
pub mod ResetLaws
pub mod Again
pub mod Examples
pub mod Witness
