pub mod Reason
pub mod Message
