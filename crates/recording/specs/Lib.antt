pub mod Error
pub mod Tag
pub mod File
pub mod Write
pub mod Pieces
pub mod Calls
pub mod Trip
