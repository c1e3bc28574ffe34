pub mod TestLaws
pub mod SiftLaws
pub mod ListedLaws
pub mod MergeLaws
pub mod StepLaws
pub mod RewriteLaws
pub mod CallLaws
