pub mod Process
pub mod Table
pub mod Ending
