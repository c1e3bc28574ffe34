pub mod HandLaws
pub mod CallLaws
pub mod LeaveLaws
