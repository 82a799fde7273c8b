pub mod Moved
pub mod Lent
pub mod Once
