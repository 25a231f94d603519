pub mod Structures
pub mod Idempotents
