-- Sources and framer together: every call, and any list of calls.
pub mod EngineLaws
pub mod RunLaws
pub mod ClockLaws
pub mod FailLaws
