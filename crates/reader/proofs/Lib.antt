pub mod ItemsLaws
pub mod AlongLaws
pub mod FrameLaws
pub mod Theorems
pub mod Wider
pub mod Unique
