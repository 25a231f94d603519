pub mod FormalSums
pub mod Steps
