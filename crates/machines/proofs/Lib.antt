pub mod Refusals
pub mod Runs
