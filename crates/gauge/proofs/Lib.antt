pub mod Totals
pub mod Once
