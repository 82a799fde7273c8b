pub mod Calls
pub mod Holding
pub mod Once
