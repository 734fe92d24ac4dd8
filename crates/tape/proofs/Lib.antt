pub mod SampleLaws
pub mod PlaceLaws
pub mod SoonLaws
pub mod StartLaws
pub mod Unique
pub mod Vectors
