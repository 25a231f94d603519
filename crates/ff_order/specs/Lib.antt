pub mod Enlargements
pub mod Steps
