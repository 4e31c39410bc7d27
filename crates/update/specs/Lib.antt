pub mod Targets
pub mod Replacing
