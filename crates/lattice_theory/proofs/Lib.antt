pub mod Parts
pub mod Lattices
pub mod Indices
pub mod Between
pub mod Operations
pub mod Bases
