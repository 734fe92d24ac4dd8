-- What every room stands on: bits, tests, lists and padded bytes, and the framer as a machine on the ledger's operations.
pub mod BitLaws
pub mod TestLaws
pub mod ListLaws
pub mod PadLaws
pub mod Machine
