pub mod Resumed
pub mod Examples
