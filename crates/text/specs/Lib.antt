pub mod Digit
pub mod Number
pub mod Put
pub mod Line
pub mod Bytes
pub mod Short
pub mod Draft
