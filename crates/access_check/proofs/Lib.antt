pub mod Naming
mod Pushing
pub mod Reading
mod Finding
mod Climbing
mod Entering
