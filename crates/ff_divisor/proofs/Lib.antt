pub mod Integers
pub mod FormalSums
pub mod Multiplicities
pub mod Searches
pub mod Steps
pub mod Runs
