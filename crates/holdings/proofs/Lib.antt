pub mod FindLaws
pub mod SearchLaws
pub mod RowLaws
pub mod SlotLaws
pub mod CellLaws
pub mod WindowLaws
pub mod StrangerLaws
pub mod LendLaws
