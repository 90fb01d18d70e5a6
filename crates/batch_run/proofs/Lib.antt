pub mod Devices
pub mod Beginning
pub mod Meeting
pub mod BatchRuns
pub mod Promise
