pub mod Unstopped
pub mod Reading
pub mod Examples
