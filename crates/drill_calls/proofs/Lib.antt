pub mod AreaLaws
pub mod StepLaws
pub mod AskLaws
pub mod DrillLaws
