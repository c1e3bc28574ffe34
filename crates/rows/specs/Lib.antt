pub mod Rows
pub mod Limits
pub mod Proper
pub mod Device
pub mod Shapes
pub mod Laws
