pub mod Sights
pub mod Classes
