pub mod PrimeSystems
pub mod InvertiblePrimes
pub mod Components
pub mod Splits
pub mod ComponentPrimes
pub mod ComponentSystems
