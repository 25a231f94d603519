pub mod Decompositions
pub mod Laws
