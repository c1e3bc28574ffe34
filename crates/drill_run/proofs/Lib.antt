pub mod LogLaws
pub mod RecordLaws
pub mod AnswerLaws
pub mod RunLaws
