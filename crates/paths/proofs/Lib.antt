pub mod Splits
pub mod Readings
pub mod Joins
pub mod PathOrder
mod Padding
mod Scans
pub mod Extends
pub mod Values
pub mod LastName
mod Memory
