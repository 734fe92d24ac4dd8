pub mod BusLaws
pub mod Unique
