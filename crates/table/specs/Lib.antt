pub mod Lists
pub mod Rows
pub mod Codec
pub mod Tables
pub mod Tests
