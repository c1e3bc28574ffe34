pub mod Keys
pub mod Labels
