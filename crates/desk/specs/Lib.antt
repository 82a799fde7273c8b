pub mod Answers
pub mod Desk
pub mod Calls
pub mod Pieces
pub mod Once
