pub mod Outcomes
pub mod Performing
pub mod CodeHistory
pub mod CodeWalks
