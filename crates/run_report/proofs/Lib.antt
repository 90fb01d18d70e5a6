pub mod Lowest
pub mod Adding
