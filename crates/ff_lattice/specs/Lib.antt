pub mod Lattices
pub mod Orders
pub mod PositionLists
pub mod Quotients
pub mod Steps
pub mod Residues
pub mod Colons
pub mod Units
