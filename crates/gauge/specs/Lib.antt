pub mod Accepted
pub mod Once
