pub mod Checking
pub mod Sets
pub mod Held
pub mod Emptied
pub mod Ways
pub mod Once
