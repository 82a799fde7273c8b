pub mod Ends
pub mod Fields
pub mod Puts
pub mod Long
pub mod Back
