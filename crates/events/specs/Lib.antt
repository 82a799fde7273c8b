pub mod Calls
pub mod Unchecked
pub mod Once
