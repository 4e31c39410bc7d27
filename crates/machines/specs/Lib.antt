pub mod Refusals
pub mod Machine
pub mod Chain
