pub mod Names
pub mod FunctionFields
pub mod Bound
pub mod Sessions
pub mod Places
pub mod Steps
