-- Definitions cited only by the crate's own contracts and proofs.
pub mod Read
