pub mod Searches
pub mod Named
pub mod Lends
