pub mod CodeFunctions
pub mod Coordinates
pub mod ConstantAlgebra
