pub mod Hosts
pub mod Version
