pub mod Locals
pub mod Walking
pub mod Lending
pub mod TableFirst
pub mod Calling
pub mod Turns
pub mod Passing
pub mod Thin
