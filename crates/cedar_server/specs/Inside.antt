-- Definitions used only by private contracts.
pub mod Offers
pub mod Ahead
pub mod Heads
pub mod StandingParts
pub mod Folding
pub mod Selecting
pub mod Standing
