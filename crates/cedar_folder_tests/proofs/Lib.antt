pub mod LogLemmas
pub mod Ends
