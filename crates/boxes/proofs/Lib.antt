pub mod Drawn
pub mod Drawings
