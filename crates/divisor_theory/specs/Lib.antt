pub mod Indices
pub mod Parts
pub mod InfiniteRecords
