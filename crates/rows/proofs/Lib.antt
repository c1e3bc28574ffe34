pub mod Shapes
pub mod Laws
pub mod Laid
pub mod Sizes
