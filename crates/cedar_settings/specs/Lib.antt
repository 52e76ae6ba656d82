pub mod Decisions
pub mod Settings
pub mod Values
