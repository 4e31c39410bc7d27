pub mod Valid
pub mod Kinds
pub mod Sizes
pub mod Stages
