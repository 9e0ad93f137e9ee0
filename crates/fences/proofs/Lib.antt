pub mod Fronts
pub mod Guards
