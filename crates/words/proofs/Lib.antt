pub mod Rules
pub mod Bits
pub mod Machine
pub mod Seek
pub mod Chains
