pub mod Spellings
pub mod Cuts
pub mod Texts
