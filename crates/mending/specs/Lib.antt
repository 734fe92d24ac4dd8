pub mod Copy
pub mod Damage
pub mod Check
pub mod Calls
