-- Definitions cited only by contracts below the formatter's own calls.
pub mod Lexed
pub mod Commas
pub mod Steps
pub mod Leadings
