pub mod File
pub mod Mended
