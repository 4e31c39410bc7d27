pub mod Cells
pub mod Moved
pub mod Image
