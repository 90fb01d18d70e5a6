pub mod Acts
pub mod Buffer
pub mod Desk
pub mod Network
pub mod Stepping
pub mod Processes
pub mod Kept
