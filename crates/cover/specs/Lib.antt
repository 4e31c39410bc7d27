pub mod Image
pub mod Change
