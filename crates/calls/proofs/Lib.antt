pub mod Tested
pub mod Decided
pub mod Indexed
pub mod Examples
