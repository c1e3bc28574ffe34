pub mod Tags
pub mod Courier
