pub mod FileLaws
pub mod MendedLaws
