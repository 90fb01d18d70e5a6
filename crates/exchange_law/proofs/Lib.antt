pub mod Marks
pub mod Phases
pub mod Counted
pub mod Meeting
pub mod Told
pub mod Lines
pub mod Streams
