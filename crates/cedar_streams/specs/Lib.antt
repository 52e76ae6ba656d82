pub mod Devices
pub mod Texts
