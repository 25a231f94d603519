pub mod Idempotents
