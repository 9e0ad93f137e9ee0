pub mod Piles
pub mod Faults
