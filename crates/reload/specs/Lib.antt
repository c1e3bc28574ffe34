pub mod Doings
pub mod ScreenHistory
pub mod SavedHistory
