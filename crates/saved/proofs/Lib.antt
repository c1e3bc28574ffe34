pub mod BlobLaws
pub mod RowBlobLaws
pub mod RecordLaws
pub mod ProgressLaws
pub mod SaveLaws
