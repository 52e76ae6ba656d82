-- Definitions cited only by the crate's own contracts and proofs.
pub mod Measured
pub mod Printed
pub mod Written
pub mod Walked
pub mod Spare
