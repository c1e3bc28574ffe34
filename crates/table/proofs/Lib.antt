pub mod ListLaws
pub mod RowLaws
pub mod FindLaws
pub mod ChangeLaws
pub mod RetainLaws
pub mod TableLaws
