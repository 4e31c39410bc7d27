pub mod Output
pub mod Left
pub mod Examples
