pub mod Frames
pub mod Constants
pub mod Listings
pub mod Products
