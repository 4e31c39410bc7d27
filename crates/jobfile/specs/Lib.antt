pub mod Files
pub mod Decoding
pub mod Read
pub mod Examples
