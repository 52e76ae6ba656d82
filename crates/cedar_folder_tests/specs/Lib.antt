pub mod Laws
pub mod Logs
