pub mod Algebras
pub mod Spaces
pub mod Steps
pub mod Chains
pub mod Relations
pub mod Roots
pub mod Idempotents
pub mod Splits
