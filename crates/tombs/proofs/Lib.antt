pub mod FindLaws
pub mod WriteLaws
pub mod CallLaws
