pub mod WalkLaws
pub mod OwnLaws
pub mod CallLaws
