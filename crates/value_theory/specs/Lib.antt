pub mod IntegralLattices
pub mod Primes
pub mod Laws
