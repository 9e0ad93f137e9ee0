pub mod Rows
pub mod Guard
