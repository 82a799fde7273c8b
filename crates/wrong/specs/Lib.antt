pub mod Machines
pub mod Tried
