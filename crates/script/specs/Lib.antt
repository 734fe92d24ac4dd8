pub mod Word
pub mod Call
pub mod Tape
pub mod Pairs
pub mod Answer
