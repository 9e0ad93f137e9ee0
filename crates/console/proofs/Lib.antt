pub mod Pieces
pub mod Columns
