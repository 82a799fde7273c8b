pub mod Calls
pub mod Once
