pub mod LowestElements
pub mod OneWritten
pub mod WrittenRows
pub mod TextOrder
pub mod TextCases
pub mod OrderedLists
