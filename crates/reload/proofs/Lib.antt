pub mod ReadBackLaws
pub mod LoadedLaws
pub mod KeepLaws
pub mod DoingLaws
pub mod AreaLaws
pub mod Examples
