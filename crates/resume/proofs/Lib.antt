pub mod Looks
pub mod Outcomes
pub mod Beginning
pub mod Examples
