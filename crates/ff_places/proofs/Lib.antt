pub mod ComponentSets
pub mod Listings
pub mod Systems
pub mod MadePrimes
pub mod ComponentLists
pub mod IdealSets
pub mod WrittenTexts
pub mod Sides
