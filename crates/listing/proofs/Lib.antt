pub mod FixedLaws
pub mod SpreadLaws
pub mod EscapeLaws
pub mod ItemLaws
pub mod Unique
pub mod Vectors
pub mod LinesLaws
pub mod RoomLaws
