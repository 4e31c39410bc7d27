pub mod Stale
pub mod Rows
