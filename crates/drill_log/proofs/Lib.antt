pub mod RunLaws
pub mod PerformLaws
pub mod WholeLaws
