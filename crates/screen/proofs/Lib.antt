pub mod LineLaws
pub mod RowLaws
pub mod CallLaws
