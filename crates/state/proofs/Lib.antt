pub mod ConfigLaws
pub mod ReaderLaws
pub mod RowLaws
pub mod HeldLaws
pub mod BeforeLaws
