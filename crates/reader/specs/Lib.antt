pub mod Frame
pub mod Items
pub mod Listing
pub mod Answer
