pub mod WordLaws
pub mod AnswerLaws
pub mod PairsLaws
pub mod Unique
