pub mod ReasonLaws
pub mod MessageLaws
