pub mod Blobs
pub mod Saving
