mod Cuts
pub mod Outside
mod Shown
pub mod Refused
