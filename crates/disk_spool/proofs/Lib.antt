pub mod RingSteps
pub mod Running
pub mod Meeting
mod Opening
