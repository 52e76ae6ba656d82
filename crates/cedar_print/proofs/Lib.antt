pub mod Columns
pub mod Beginnings
pub mod Facts
pub mod Printing
pub mod Units
pub mod Clean
pub mod Cleaned
pub mod Walks
