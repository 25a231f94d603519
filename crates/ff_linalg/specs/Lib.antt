pub mod Matrix
pub mod Steps
pub mod Forms
pub mod Space
pub mod Kernel
pub mod MatrixOver
pub mod Relations
