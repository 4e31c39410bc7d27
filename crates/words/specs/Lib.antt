pub mod Rules
pub mod Bits
pub mod Seek
