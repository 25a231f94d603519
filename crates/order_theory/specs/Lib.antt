pub mod Orders
pub mod PlaceLists
