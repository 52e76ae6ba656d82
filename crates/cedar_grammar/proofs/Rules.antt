-- Laws of the rules that readers follow.
pub mod Meanings
pub mod Tests
pub mod Regrouping
pub mod Languages
pub mod Places
pub mod Depths
pub mod Ends
pub mod Forms
pub mod Maps
