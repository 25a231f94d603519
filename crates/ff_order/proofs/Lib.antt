pub mod NilpotentClasses
pub mod RadicalSets
pub mod Turns
pub mod Measure
pub mod IntegralFunctions
pub mod Products
pub mod SquareParts
pub mod Separable
