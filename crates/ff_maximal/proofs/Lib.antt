pub mod RepeatedFactors
pub mod FiniteOrders
pub mod InfiniteOrders
