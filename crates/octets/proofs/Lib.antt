pub mod Parts
pub mod Numbers
pub mod Compare
pub mod Words
