pub mod Layout
pub mod Spells
pub mod Tests
pub mod Lawful
pub mod Laws
pub mod Examples
