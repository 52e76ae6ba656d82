-- Definitions used only by private contracts.
pub mod Separators
pub mod TokenBeginnings
pub mod Firsts
pub mod Leaving
pub mod Turns
pub mod PartRules
pub mod Reaching
pub mod Pendings
pub mod Ends
pub mod Brackets
pub mod Beginnings
pub mod Lines
pub mod Searches
