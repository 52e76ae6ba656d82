pub mod Items
pub mod Found
pub mod Kept
pub mod Taking
pub mod Inside
pub mod ShownNodes
pub mod OwnTokens
