pub mod Spaces
pub mod TraceDuals
