pub mod Line
pub mod Field
