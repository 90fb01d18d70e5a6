mod Numerals
pub mod Steps
pub mod Completed
