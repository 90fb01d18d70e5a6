pub mod Claims
pub mod Queued
pub mod History
pub mod DiskCalls
pub mod Laws
pub mod Seats
