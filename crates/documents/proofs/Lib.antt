pub mod Parts
pub mod Words
pub mod Figures
pub mod Strings
pub mod Values
pub mod Arrays
pub mod Objects
pub mod Documents
