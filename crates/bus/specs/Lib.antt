pub mod Filter
pub mod Source
pub mod Report
pub mod Update
