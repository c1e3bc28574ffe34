pub mod Config
pub mod Reader
pub mod Sizes
pub mod Held
pub mod Before
