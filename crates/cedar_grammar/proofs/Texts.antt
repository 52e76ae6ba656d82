-- The grammar over texts and the grammar over kinds.
pub mod Tests
pub mod Kinds
pub mod Cuts
pub mod Languages
pub mod Grammars
pub mod Beginnings
pub mod Accepted
pub mod Placed
pub mod Listings
