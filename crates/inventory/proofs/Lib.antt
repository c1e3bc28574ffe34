pub mod FillLaws
pub mod OursLaws
pub mod ListedLaws
pub mod TestLaws
pub mod ReceiveLaws
pub mod LeaveLaws
