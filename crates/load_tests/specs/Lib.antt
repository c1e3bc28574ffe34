pub mod Records
pub mod Tests
