mod Laying
pub mod Sought
mod Rising
mod Splicing
mod Moves
mod Changed
pub mod Writing
