pub mod Listed
pub mod Entered
pub mod Faults
pub mod Frames
pub mod Holds
pub mod Parts
pub mod Has
pub mod Seen
