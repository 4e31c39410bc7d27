pub mod Obeying
pub mod Running
pub mod Bound
pub mod Lending
pub mod Examples
