-- Definitions cited only by contracts below the formatter's own calls.
pub mod Computed
pub mod Releasing
pub mod Halving
pub mod Seeking
