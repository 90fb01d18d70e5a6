pub mod Relay
pub mod Closing
pub mod Held
pub mod Holding
pub mod Ended
pub mod Kept
pub mod Nexts
pub mod Machines
pub mod Answering
mod Examples
pub mod Takes
pub mod PageTakes
pub mod JobSteps
pub mod Faulty
pub mod Falling
pub mod Ahead
pub mod Bounds
pub mod PageBounds
