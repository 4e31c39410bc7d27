pub mod Figures
pub mod Pieces
pub mod Sheet
pub mod Appended
