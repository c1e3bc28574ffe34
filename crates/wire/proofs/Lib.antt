pub mod HeadLaws
pub mod BodyLaws
