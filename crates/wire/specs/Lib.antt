pub mod Log
pub mod Read
