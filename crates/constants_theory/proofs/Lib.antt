pub mod ConstantSpace
pub mod FieldDegrees
