pub mod PrimePowers
pub mod IntegerPowers
pub mod LatticeIdeals
pub mod LatticePrimes
pub mod PrimePlaces
pub mod PlaceValues
pub mod Denominators
