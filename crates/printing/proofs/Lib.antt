pub mod Showing
pub mod Pieces
