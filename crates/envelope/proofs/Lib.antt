pub mod ChoiceLaws
pub mod CallLaws
