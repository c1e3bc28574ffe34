pub mod RecordLaws
pub mod SlotLaws
pub mod BlobLaws
pub mod TestLaws
pub mod KeyLaws
