pub mod HmacLaws
pub mod HkdfLaws
