pub mod Causes
pub mod Devices
pub mod Ended
pub mod Faults
pub mod Openings
pub mod Spools
pub mod Tells
