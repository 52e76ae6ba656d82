-- Definitions cited only by contracts below the formatter's own calls.
pub mod Scanners
pub mod FixedTexts
pub mod Gaps
pub mod Between
pub mod FirstTokens
pub mod Newlines
pub mod MovedLines
