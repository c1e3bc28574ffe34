pub mod Window
pub mod NoCopies
pub mod Corners
