pub mod OneOrder
pub mod OneLattice
pub mod AscendingPlaces
pub mod OnePlaces
pub mod OneConstants
pub mod OneAnswer
pub mod OneBlock
