-- Definitions used only by contracts below the formatter's own calls.
pub mod Sinks
pub mod Alike
pub mod Growing
pub mod Parts
