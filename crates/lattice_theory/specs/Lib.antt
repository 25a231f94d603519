pub mod Lattices
