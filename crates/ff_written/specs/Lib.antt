pub mod LowestTerms
pub mod Rows
pub mod TextOrder
