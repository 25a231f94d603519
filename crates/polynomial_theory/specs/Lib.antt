pub mod Division
pub mod Laws
