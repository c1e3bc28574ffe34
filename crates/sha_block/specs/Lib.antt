pub mod Loop
pub mod Constants
pub mod Block
