pub mod MirrorLaws
pub mod Kept
pub mod Refused
pub mod Vectors
pub mod Unique
