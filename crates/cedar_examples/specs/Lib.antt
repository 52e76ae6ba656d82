pub mod Keys
pub mod Fingerprints
pub mod Comments
pub mod Lints
pub mod Documents
