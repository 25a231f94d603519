pub mod Maps
pub mod Reductions
pub mod Orders
pub mod InfiniteSide
