pub mod Parted
pub mod Least
pub mod ByPlace
pub mod Segments
pub mod Offspring
mod Found
mod NextKey
mod Turns
