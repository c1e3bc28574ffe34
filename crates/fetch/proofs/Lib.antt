pub mod Laws
pub mod EnvelopeLaws
pub mod CallLaws
