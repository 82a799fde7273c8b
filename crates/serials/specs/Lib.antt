pub mod Draws
pub mod Serials
pub mod Reads
pub mod StaysWhole
pub mod NothingLost
pub mod Demand
pub mod RuledOut
