-- Trees and lists without trailing commas.
pub mod Leaves
pub mod Grammar
pub mod CommaPairs
pub mod ByTexts
