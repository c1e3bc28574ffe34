pub mod Padding
pub mod Sha384
pub mod Example
