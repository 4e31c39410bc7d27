pub mod Covered
pub mod Exceeding
pub mod RowWords
