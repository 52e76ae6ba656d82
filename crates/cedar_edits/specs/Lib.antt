pub mod Inside
pub mod Positions
pub mod Changes
pub mod Laws
pub mod Edits
pub mod Lines
pub mod Returns
