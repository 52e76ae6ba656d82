pub mod Layout
pub mod Value
pub mod Width
pub mod Nodes
pub mod Lookups
pub mod Comments
pub mod Cleaning
pub mod Inside
