pub mod Walk
pub mod FalseSets
pub mod Marking
