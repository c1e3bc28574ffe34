pub mod LeafLaws
pub mod ChoiceLaws
pub mod WriteLaws
pub mod StoreLaws
pub mod CallLaws
