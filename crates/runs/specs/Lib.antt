pub mod Places
pub mod Search
pub mod Openings
