pub mod Ideals
pub mod Indices
pub mod Records
