pub mod Entries
pub mod Lists
pub mod SumLists
pub mod PartSums
