-- What the reader makes of the ledger's frames.
pub mod ReadLaws
