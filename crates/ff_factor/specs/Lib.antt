pub mod Quotients
pub mod QuotientLaws
pub mod Primes
pub mod Factors
pub mod Pulls
pub mod LowestTerms
pub mod Reductions
