pub mod Commands
pub mod Numbers
pub mod Output
pub mod Printing
pub mod Ready
