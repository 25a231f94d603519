pub mod Supported
pub mod InfiniteMaps
pub mod InfinitePlaces
