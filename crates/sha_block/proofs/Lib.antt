pub mod Loop
pub mod Words
pub mod Steps
