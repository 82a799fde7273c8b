-- what the calls' proofs share
pub mod Guards
pub mod Messages
pub mod Filled
pub mod Sending
pub mod SameColumns
pub mod Reading
-- what the walk's proofs share
pub mod Stations
pub mod ZeroRows
pub mod Passing
pub mod Findings
-- the rules: what they say, and what they read
pub mod Tokens
pub mod Reflect
pub mod Unbroken
pub mod Same
pub mod Agree
pub mod Walked
-- the layer's promise: what an operation leaves
pub mod Long
pub mod There
pub mod Stores
pub mod Received
pub mod Leaves
pub mod After
pub mod Once
