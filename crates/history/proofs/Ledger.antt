-- What is true of the ledger alone, by one induction over its operations.
pub mod Moves
pub mod LedgerLaws
pub mod TakeLaws
pub mod DeedLaws
pub mod MarkLaws
pub mod FrameLaws
pub mod ClockLaws
