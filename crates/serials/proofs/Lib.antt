-- one series: what each change of a copy or a transfer leaves whole
pub mod Wholes
pub mod Counting
pub mod Keeping
pub mod Telling
pub mod Copying
pub mod Turning
pub mod Sending
pub mod Arriving
pub mod Opening
-- the job slots: what each change of a job, and of the copies below, leaves whole
pub mod Locked
pub mod Slots
pub mod Stations
pub mod Putting
pub mod Locking
pub mod Drawing
-- the draws of a series, one after the other
pub mod Tiling
pub mod Moving
pub mod Showing
-- the steps, kind by kind
pub mod Leaving
pub mod Committing
pub mod Committed
pub mod Proper
pub mod Admitting
pub mod CopySteps
pub mod JobSteps
pub mod Stepping
-- a run, and the statements
pub mod Running
pub mod Reading
pub mod Delivering
pub mod Demand
-- what they rule out
pub mod Ruled
