-- Definitions used only by private contracts.
pub mod Ends
pub mod Before
pub mod Trims
