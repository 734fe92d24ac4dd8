-- The engine's source records are the ledger's accounts, and what they give to be mirrored fits every frame.
pub mod SourceLaws
pub mod ReportLaws
pub mod EventLaws
pub mod BookLaws
pub mod SetupLaws
pub mod TickLaws
