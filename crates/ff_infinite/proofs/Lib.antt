pub mod LowZeros
pub mod LocalMembers
pub mod Starts
