pub mod PowerRows
pub mod FoundRows
pub mod TurnedRows
pub mod Elements
pub mod Orders
pub mod Forms
pub mod SpanRows
pub mod Made
