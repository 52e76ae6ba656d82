-- Laws of readers, whatever they read.
pub mod Equations
pub mod Languages
pub mod Places
pub mod Depths
pub mod Ends
pub mod Families
