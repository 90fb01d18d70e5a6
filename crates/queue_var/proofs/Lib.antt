pub mod Places
pub mod Waits
pub mod BetweenTwo
