-- Reading lists of tokens by the grammar. Only contracts of private functions cite these.
pub mod Reading
pub mod Sets
pub mod Regroup
pub mod Rules
pub mod Lines
pub mod Hopeless
