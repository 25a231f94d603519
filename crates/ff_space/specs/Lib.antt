pub mod Vectors
pub mod Spaces
pub mod Layers
pub mod Steps
pub mod Coordinates
