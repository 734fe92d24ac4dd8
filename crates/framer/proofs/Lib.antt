pub mod FramerLaws
pub mod KeptLaws
pub mod Unique
