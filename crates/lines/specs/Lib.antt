pub mod Texts
pub mod Reader
pub mod EventLines
pub mod Printed
pub mod Back
pub mod Pens
