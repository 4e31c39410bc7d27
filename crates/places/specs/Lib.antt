pub mod Address
pub mod Walks
pub mod Bits
pub mod Lines
