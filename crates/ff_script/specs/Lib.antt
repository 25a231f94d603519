pub mod Grammar
pub mod Scripts
pub mod Printing
pub mod Reading
