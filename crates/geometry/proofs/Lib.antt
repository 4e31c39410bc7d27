pub mod Facts
pub mod Places
pub mod Stages
pub mod Bounds
pub mod Boundaries
pub mod Numbered
