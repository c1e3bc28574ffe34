pub mod Taken
pub mod Parts
