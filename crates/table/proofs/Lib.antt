pub mod Places
mod Searching
mod Slides
pub mod Totals
