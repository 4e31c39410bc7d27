pub mod Coding
pub mod Told
pub mod Sizing
pub mod Examples
