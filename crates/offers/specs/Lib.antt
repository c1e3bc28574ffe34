pub mod Areas
pub mod Appended
pub mod Entries
pub mod Offers
