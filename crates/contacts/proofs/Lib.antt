pub mod ContactLaws
pub mod FreshLaws
