pub mod Words
pub mod Spoken
pub mod Calls
pub mod Heard
