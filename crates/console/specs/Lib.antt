pub mod Asks
pub mod Reports
