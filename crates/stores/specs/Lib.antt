pub mod WellFormed
pub mod Pairs
pub mod Answers
pub mod Meaning
pub mod Runs
pub mod Counts
pub mod Laws
