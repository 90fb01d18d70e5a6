pub mod Nexts
pub mod Lawful
pub mod Ended
pub mod Given
pub mod Faults
pub mod Together
pub mod Followed
pub mod Moved
