pub mod Cause
pub mod Meter
pub mod Queue
pub mod Framer
