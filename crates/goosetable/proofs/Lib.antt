pub mod StayLaws
pub mod TellLaws
pub mod CountLaws
pub mod HostLaws
pub mod QuietLaws
pub mod NumberLaws
