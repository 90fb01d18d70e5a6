pub mod Steps
pub mod FileRows
pub mod OwnRows
pub mod StackRows
pub mod Measure
